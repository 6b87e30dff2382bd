-- The script by which the page is searched.
use Rattle.std.specs.Prelude.{ℕ, List, [], ◌++◌, codes}
use Rattle.out_markup.specs.Markup.{element}

-- what is on the page: each section, with its names and files
unfoldable pub gathering : List ℕ
gathering = codes "document.documentElement.className = \"opening\";\naddEventListener(\"DOMContentLoaded\", () => {\n  const all = (words, within = document) => [...within.querySelectorAll(words)];\n  const lower = (part) => part.textContent.toLowerCase();\n  const [field] = all(\"input\"), [count] = all(\"output\"), [tools] = all(\".tools\"), buttons = all(\"button\");\n  const disks = all(\"details, section\").map((box, place) => ({ box, hidden: box.hidden = place >= 100 }));\n  const known = (disk) => disk.files ? disk : Object.assign(disk, {\n    names: all(\".name, .host\", disk.box).map(lower),\n    files: all(\"tbody th\", disk.box).map((head) => ({ row: head.parentNode, name: lower(head), hidden: false })),\n  });\n  document.documentElement.className = \"\";\n"

-- what is shown: the sections and files whose name contains what is typed, in the state that is
-- chosen
unfoldable pub showing : List ℕ
showing = codes "  let state = \"\", last = \"\", rest = [], noted = [], frame;\n  const more = (most = 100) => {\n    for (const disk of rest.splice(0, most)) known(disk).box.hidden = disk.hidden = false;\n    frame = rest.length && requestAnimationFrame(() => more());\n  };\n  const counted = (number) => number === 1 ? \"1 file\" : `${number} files`;\n  const unfold = (kept, text) => {\n    let room = 400, rows = 4000;\n    for (const disk of disks) disk.box.open = false;\n    for (const part of noted.splice(0)) delete part.dataset.found;\n    for (const disk of text && kept) {\n      if (disk.held) {\n        room -= disk.files.filter((file) => file.holds).length;\n        rows -= disk.files.length;\n      }\n      disk.box.open = disk.held ? room >= 0 && rows >= 0 : kept.length <= 20;\n      if (!disk.held || disk.box.open) continue;\n      const [part] = all(\".contents\", disk.box);\n      part.dataset.found = `${counted(disk.held)} found`;\n      noted.push(part);\n    }\n  };\n  const show = () => {\n    const text = field.value.toLowerCase(), asked = text && state + \" \" + text;\n    const kept = disks.filter((disk) => {\n      const whole = !text || known(disk).names.some((name) => name.includes(text)), files = disk.files || [];\n      const held = text ? files.filter((file) => file.name.includes(text)) : [];\n      for (const file of files) file.holds = whole;\n      for (const file of held) file.holds = true;\n      disk.held = held.length;\n      const found = (whole || disk.held) && (!state || disk.box.className === state);\n      if (!found && !disk.hidden) disk.box.hidden = disk.hidden = true;\n      if (found) for (const file of files) if (file.hidden === file.holds) file.row.hidden = file.hidden = !file.holds;\n      return found;\n    });\n    if (asked !== last) unfold(kept, text);\n    last = asked;\n    const held = kept.reduce((sum, disk) => sum + disk.held, 0);\n    count.value = `${kept.length} of ${disks.length} disks` + (text && `, ${counted(held)}`);\n    cancelAnimationFrame(frame);\n    rest = kept.filter((disk) => disk.hidden);\n    more();\n  };\n"

-- when the search runs: as the page opens, by its address, and by the reader
unfoldable pub listening : List ℕ
listening = codes "  const search = () => {\n    const [, text = \"\"] = location.hash.match(/^#q=(.*)/) || [];\n    try { field.value = decodeURIComponent(text); } catch { field.value = text; }\n    show();\n  };\n  field.addEventListener(\"input\", () => {\n    show();\n    history.replaceState(null, \"\", \"#\" + (field.value && \"q=\" + encodeURIComponent(field.value)));\n  });\n  for (const button of buttons) button.addEventListener(\"click\", () => {\n    state = button.value;\n    for (const other of buttons) other.setAttribute(\"aria-pressed\", other === button);\n    show();\n  });\n  addEventListener(\"hashchange\", search);\n  addEventListener(\"beforeprint\", () => more(Infinity));\n  tools.hidden = false;\n  search();\n});\n"

-- all steps
unfoldable pub steps : List ℕ
steps = gathering ++ (showing ++ listening)

-- the script
unfoldable pub script : List ℕ
script = element (codes "script") [] (codes "\n" ++ steps) ++ codes "\n"
