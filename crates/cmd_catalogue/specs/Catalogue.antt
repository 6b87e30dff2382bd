-- What `catalogue` prints of a file.
use Rattle.std.specs.Prelude.{ℕ, List, Option, codes, option_map, string_bytes}
use Rattle.d64_inventory.specs.ListingAmiss.{is_listing_amiss}
use Rattle.out_messages.specs.FaultLines.{no_dump_text}
use Rattle.program_surveys.specs.FileOutcomes.{Rule}
use Rattle.program_surveys.specs.Printings.{Printing, survey_rule}
use Rattle.program_arguments.specs.declared.jobs.Page.{Page}
use Rattle.cmd_catalogue.specs.Head.{page_head}
use Rattle.cmd_catalogue.specs.Links.{folder_of}
use Rattle.cmd_catalogue.specs.Sections.{section, failed_section}
use Rattle.cmd_catalogue.specs.Title.{page_title}

-- the folder for links that the page's options name, if they do
abbrev pub links_of : Page → Option (List ℕ)
links_of page = option_map string_bytes page.links

-- what is printed before the first image: the head of the page
abbrev pub catalogue_heading : Page → List ℕ
catalogue_heading page = page_head (page_title (option_map string_bytes page.title))

-- what `catalogue` prints on a page with these options: a section for each file; a dump is amiss if
-- a file is not whole or may be missing
abbrev pub catalogue_printing : Page → Printing
catalogue_printing page = record {
  heading = catalogue_heading page;
  of_dump = λ name bytes dump. section page.maps (folder_of (links_of page) name) name dump;
  of_unread = λ name. failed_section name (codes "cannot be read");
  of_no_dump = λ name bytes. failed_section name (no_dump_text bytes);
  is_amiss = is_listing_amiss;
}

-- the rule of `catalogue` on a page with these options: the result for a file's bytes, or that it
-- cannot be read
abbrev pub catalogue_rule : Page → Rule
catalogue_rule page = survey_rule (catalogue_printing page)
