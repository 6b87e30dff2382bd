use Rattle.std.proofs.Common.{ℕ, ltb, List, ◌≡◌, sym, ap, ◌∙◌}
use Rattle.std.proofs.lemmas.Bool.{lt-ltb, le-ltb}
use Rattle.d64_survey.specs.Way.{is_whole}
use Rattle.d64_survey.specs.Owners.{directory_way}
use Rattle.d64_survey.specs.declared.way_end.WayEnd.{WayEnd}
use Rattle.d64_inventory.proofs.ListingTests.{by_file, by_way, by_errors}
use Rattle.d64_inventory.proofs.listing_amiss.is_amiss.Goals as goal

pub returns-then-unwhole-gt0 : goal.returns-then-unwhole-gt0
returns-then-unwhole-gt0 c = by_file c.args.all.now (sym (ap (ltb 0) c.unwhole.ensures) ∙ lt-ltb 0 c.unwhole.result c.if-unwhole-gt0.true)

-- how the directory's way ends
end_is : (image other : List (List ℕ)) (end : WayEnd) → image ≡ other → end ≡ (directory_way image).1 → is_whole end ≡ is_whole (directory_way other).1
end_is image other end same is = ap is_whole is ∙ ap (λ (i : List (List ℕ)). is_whole (directory_way i).1) same

pub returns-then-not-is_whole : goal.returns-then-not-is_whole
returns-then-not-is_whole c =
    by_way c.args.all.now (sym (ap (ltb 0) c.unwhole.ensures) ∙ le-ltb 0 c.unwhole.result c.if-unwhole-gt0.false)
    (sym (c.is_whole.ensures ∙ end_is _ _ c.directory_end.result c.survey.ensures c.directory_end.ensures) ∙ c.if-not-is_whole.true)

pub returns : goal.returns
returns c =
    c.is_directory_unreadable.ensures
    ∙ by_errors c.args.all.now (sym (ap (ltb 0) c.unwhole.ensures) ∙ le-ltb 0 c.unwhole.result c.if-unwhole-gt0.false)
    (sym (c.is_whole.ensures ∙ end_is _ _ c.directory_end.result c.survey.ensures c.directory_end.ensures) ∙ c.if-not-is_whole.false)
