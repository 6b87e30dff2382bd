-- Whether a list of files is amiss.
use Rattle.std.proofs.Common.{◌≡◌, ◌||◌, Bool, true, false, not, ltb, sym, ap, ◌∙◌}
use Rattle.d64_survey.specs.Dump.{DumpView}
use Rattle.d64_survey.specs.Way.{is_whole}
use Rattle.d64_survey.specs.Owners.{directory_way}
use Rattle.d64_survey.specs.Inspection.{unwhole_count}
use Rattle.d64_inventory.specs.ListingAmiss.{is_directory_unreadable, is_listing_amiss}

-- a file isn't whole
pub by_file : (dump : DumpView) → ltb 0 (unwhole_count dump) ≡ true → true ≡ is_listing_amiss dump
unfolding is_listing_amiss
by_file dump some = sym (ap (λ (t : Bool). t || (not (is_whole (directory_way dump.image).1) || is_directory_unreadable dump)) some)

-- no file is, and the directory decides
past_files : (dump : DumpView) → ltb 0 (unwhole_count dump) ≡ false → is_listing_amiss dump ≡ (not (is_whole (directory_way dump.image).1) || is_directory_unreadable dump)
unfolding is_listing_amiss
past_files dump none = ap (λ (t : Bool). t || (not (is_whole (directory_way dump.image).1) || is_directory_unreadable dump)) none

-- its way isn't a whole chain
pub by_way : (dump : DumpView) → ltb 0 (unwhole_count dump) ≡ false → is_whole (directory_way dump.image).1 ≡ false → true ≡ is_listing_amiss dump
by_way dump none broken = sym (past_files dump none ∙ ap (λ (t : Bool). not t || is_directory_unreadable dump) broken)

-- it is, and read errors decide
pub by_errors : (dump : DumpView) → ltb 0 (unwhole_count dump) ≡ false → is_whole (directory_way dump.image).1 ≡ true → is_directory_unreadable dump ≡ is_listing_amiss dump
by_errors dump none whole = sym (past_files dump none ∙ ap (λ (t : Bool). not t || is_directory_unreadable dump) whole)
