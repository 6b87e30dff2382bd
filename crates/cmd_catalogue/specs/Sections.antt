-- The section of an image.
use Rattle.std.specs.Prelude.{ℕ, if◌then◌else◌, Bool, List, [], ◌++◌, Option, codes}
use Rattle.std.specs.List.{flat_map}
use Rattle.d64_image.specs.Disk.{Disk, Bytes}
use Rattle.d64_files.specs.DiskHeader.{disk_id, disk_name}
use Rattle.d64_survey.specs.Dump.{DumpView}
use Rattle.d64_survey.specs.Faults.{faults}
use Rattle.d64_survey.specs.Inspection.{is_amiss, is_sound}
use Rattle.d64_survey.specs.ReadErrors.{read_errors}
use Rattle.d64_survey.specs.declared.fault.Fault.{Fault}
use Rattle.d64_survey.specs.declared.read_error.ReadError.{ReadError}
use Rattle.petscii.specs.Spelling.{spelling}
use Rattle.out_messages.specs.StateText.{contents_text, state_text}
use Rattle.out_messages.specs.FaultText.{fault_text, read_error_text}
use Rattle.host_storage.specs.Shown.{shown_name}
use Rattle.out_markup.specs.Markup.{element, held_text}
use Rattle.out_picture.specs.PagePicture.{page_svg_of}
use Rattle.cmd_catalogue.specs.Elements.{text_line}
use Rattle.cmd_catalogue.specs.Files.{table}

-- the disk's name in text form
unfoldable pub disk_name_line : Disk → List ℕ
disk_name_line image = text_line (codes "h2") (codes " class=\"name\"") (spelling (disk_name image))

-- the disk's id
unfoldable pub id_line : Disk → List ℕ
id_line image = text_line (codes "span") (codes " class=\"id\"") (spelling (disk_id image))

-- a name of the host as it is shown, in an element with this tag
unfoldable pub host_line : List ℕ → Bytes → List ℕ
host_line element_name name = text_line element_name (codes " class=\"host\"") (held_text (shown_name name))

-- what is on the disk
unfoldable pub contents_line : Disk → List ℕ
contents_line image = text_line (codes "span") (codes " class=\"contents\"") (contents_text image)

-- the disk's state
unfoldable pub state_line : DumpView → List ℕ
state_line dump = text_line (codes "span") (codes " class=\"state\"") (state_text dump)

-- the lines by which the disk is known
unfoldable pub label_lines : Bytes → Disk → List ℕ
label_lines name image = disk_name_line image ++ (id_line image ++ host_line (codes "span") name)

-- what is seen of a closed section
unfoldable pub summary : Bytes → DumpView → List ℕ
summary name dump =
    element (codes "summary") [] (codes "\n" ++ (label_lines name dump.image ++ (contents_line dump.image ++ state_line dump))) ++ codes "\n"

-- a fault
unfoldable pub fault_item : Disk → Fault → List ℕ
fault_item image fault = text_line (codes "li") [] (fault_text image fault)

-- a read error
unfoldable pub error_item : Disk → ReadError → List ℕ
error_item image error = text_line (codes "li") [] (read_error_text image error)

-- an item for each fault
unfoldable pub fault_items : Disk → List Fault → List ℕ
fault_items image list = flat_map (fault_item image) list

unfoldable pub error_items : Disk → List ReadError → List ℕ
error_items image list = flat_map (error_item image) list

-- all that is wrong
unfoldable pub wrongs : DumpView → List ℕ
wrongs dump = element (codes "ul") [] (fault_items dump.image (faults dump.image) ++ error_items dump.image (read_errors dump)) ++ codes "\n"

-- the picture of the blocks, if it is wanted
abbrev pub picture_if : Bool → Bytes → DumpView → List ℕ
picture_if maps name dump = if maps then page_svg_of name dump else []

-- the whole content of the section, with links to host files in this folder, if there is one
unfoldable pub section_content : Bool → Option (List ℕ) → Bytes → DumpView → List ℕ
section_content maps folder name dump = codes "\n" ++ (summary name dump ++ (wrongs dump ++ (table folder dump ++ picture_if maps name dump)))

-- the attributes that say whether anything is wrong, and how its sign looks: a warning if the disk
-- is otherwise sound
abbrev pub amiss_class : Bool → Bool → List ℕ
amiss_class sound amiss =
    if amiss then (if sound then codes " class=\"amiss\" data-sign=\"warning\"" else codes " class=\"amiss\"")
    else codes " class=\"sound\""

-- the section of an image
unfoldable pub section : Bool → Option (List ℕ) → Bytes → DumpView → List ℕ
section maps folder name dump =
    element (codes "details") (amiss_class (is_sound dump.image) (is_amiss dump)) (section_content maps folder name dump) ++ codes "\n"

-- the section of a file that is not a dump, with what is wrong with it
unfoldable pub failed_section : Bytes → List ℕ → List ℕ
failed_section name wrong =
    element (codes "section") (codes " class=\"amiss\"") (codes "\n" ++ (host_line (codes "h2") name ++ text_line (codes "p") [] wrong)) ++ codes "\n"
