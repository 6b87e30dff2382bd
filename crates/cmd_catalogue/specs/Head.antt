-- What is printed before the sections.
use Rattle.std.specs.Prelude.{ℕ, List, [], ◌++◌, codes}
use Rattle.cmd_catalogue.specs.Elements.{text_line}
use Rattle.cmd_catalogue.specs.Style.{page_style}
use Rattle.cmd_catalogue.specs.Script.{script}

-- the beginning of the page: its language, and what it may load; of scripts only its own (by its
-- digest)
unfoldable pub page_opening : List ℕ
page_opening = codes "<!DOCTYPE html>\n<html lang=\"en\">\n<head>\n<meta charset=\"utf-8\">\n<meta name=\"viewport\" content=\"width=device-width, initial-scale=1\">\n<meta http-equiv=\"Content-Security-Policy\" content=\"default-src 'none'; style-src 'unsafe-inline'; script-src 'sha256-t0GAwf4aeND4mvEu34xdsTTTSa89vA+KvxshQNC3Rb8='; base-uri 'none'; form-action 'none'\">\n"

-- the end of its head
unfoldable pub head_end : List ℕ
head_end = codes "</head>\n<body>\n<header>\n"

-- what is above the sections, below the heading: the search field, the buttons, and how many disks
-- are shown
unfoldable pub search_head : List ℕ
search_head = codes "<div class=\"tools\" role=\"search\" hidden>\n<input type=\"search\" aria-label=\"Search disks and files\" placeholder=\"Search disks and files\" autocomplete=\"off\" autocapitalize=\"none\" spellcheck=\"false\">\n<div role=\"group\" aria-label=\"State\">\n<button type=\"button\" value=\"\" aria-pressed=\"true\">All</button>\n<button type=\"button\" value=\"sound\" aria-pressed=\"false\">Sound</button>\n<button type=\"button\" value=\"amiss\" aria-pressed=\"false\">Problems</button>\n</div>\n<output></output>\n</div>\n</header>\n"

-- the end of the head, and all that is above the sections, with this heading
unfoldable pub page_header : List ℕ → List ℕ
page_header title = head_end ++ (text_line (codes "h1") [] title ++ search_head)

-- the head of the page, with this title: `body` and `html` stay open until the page ends
unfoldable pub page_head : List ℕ → List ℕ
page_head title = page_opening ++ (text_line (codes "title") [] title ++ (page_style ++ (script ++ page_header title)))
