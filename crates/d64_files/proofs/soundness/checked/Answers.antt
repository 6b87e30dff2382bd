use Rattle.std.proofs.Common.{◌≡◌, ℕ, true, false, List, None, sym, ◌∙◌, subst, rules}
use Rattle.std.specs.Ordering.{nat_cmp}
use Rattle.std.specs.FinSet as set
use Rattle.d64_map.specs.Map.{CountsFit}
use Rattle.d64_files.specs.Directory.{owned_blocks, AllHold, IsFirstFault}
use Rattle.d64_files.specs.FirstFault.{first_fault, sound_conditions}
use Rattle.d64_files.specs.declared.dir_fault.DirFault.{DirFault}
use Rattle.d64_files.specs.declared.dir_fault.DirFault.TheVariants.{WrongCounts, MarkedFree}
use Rattle.d64_files.proofs.FirstFaults.{one_verdict, sound_verdict, sound_first}
use Rattle.d64_files.proofs.Verdicts.{wrong_counts, dir_fault_first, file_fault_first, all_hold, marked_free, members_too, blocks_too}
use Rattle.d64_files.proofs.soundness.checked.Goals as goal

-- what is owned of a directory is owned of its image
owned_of : (image directory : List (List ℕ)) (blocks : set.FinSet nat_cmp) → directory ≡ image
    → AllHold directory 2 5 × (blocks ≡ set.from_list (owned_blocks directory)) → AllHold image 2 5 × (blocks ≡ set.from_list (owned_blocks image))
owned_of image directory blocks same owned =
    subst (λ (i : List (List ℕ)). AllHold i 2 5 × (blocks ≡ set.from_list (owned_blocks i))) same owned

-- the first fault of the directory is that of an image whose counts fit
directory_fault : (image : List (List ℕ)) (fault : DirFault) → CountsFit image → IsFirstFault image 2 3 fault → IsFirstFault image 1 6 fault
directory_fault image fault counts first = file_fault_first image fault counts (dir_fault_first image fault first)

-- and so is that of the directory's files
files_fault : (image directory : List (List ℕ)) (fault : DirFault) → CountsFit image → directory ≡ image
    → IsFirstFault directory 2 5 fault → IsFirstFault image 1 6 fault
files_fault image directory fault counts same first = file_fault_first image fault counts (subst (λ (i : List (List ℕ)). IsFirstFault i 2 5 fault) same first)

pub returns-then-not-counts_fit-clause-first : goal.returns-then-not-counts_fit-clause-first
returns-then-not-counts_fit-clause-first c =
    sound_first c.args.image.now WrongCounts (wrong_counts c.args.image.now (λ counts.
    let known = c.counts_fit.ensures.1 counts in
    let f : true ≡ false = sym known ∙ c.if-not-counts_fit.true in
    cc))

pub returns-in_err-directory-clause-verdict : goal.returns-in_err-directory-clause-verdict
returns-in_err-directory-clause-verdict c =
    let counts = c.counts_fit.ensures.0 c.if-not-counts_fit.false in
    let known = directory_fault c.args.image.now c.in_err-directory.field-0.0 counts c.in_err-directory.ensures.conditions in
    search rules

pub returns-in_err-directory-clause-first : goal.returns-in_err-directory-clause-first
returns-in_err-directory-clause-first c =
    let fault = c.in_err-directory.field-0.0 in
    let counts = c.counts_fit.ensures.0 c.if-not-counts_fit.false in
    let known = sound_first c.args.image.now fault (directory_fault c.args.image.now fault counts c.in_err-directory.ensures.conditions) in
    search rules

pub returns-in_err-blocks-clause-verdict : goal.returns-in_err-blocks-clause-verdict
returns-in_err-blocks-clause-verdict c =
    let counts = c.counts_fit.ensures.0 c.if-not-counts_fit.false in
    let known = files_fault c.args.image.now _ c.in_err-blocks.field-0.0 counts c.in_ok-directory.ensures.image c.in_err-blocks.ensures in
    search rules

pub returns-in_err-blocks-clause-first : goal.returns-in_err-blocks-clause-first
returns-in_err-blocks-clause-first c =
    let fault = c.in_err-blocks.field-0.0 in
    let counts = c.counts_fit.ensures.0 c.if-not-counts_fit.false in
    let known = sound_first c.args.image.now fault (files_fault c.args.image.now _ fault counts c.in_ok-directory.ensures.image c.in_err-blocks.ensures) in
    search rules

pub returns-then-none_is_free-clause-verdict : goal.returns-then-none_is_free-clause-verdict
returns-then-none_is_free-clause-verdict c =
    let none = c.none_is_free.ensures.0 c.if-none_is_free.true in
    let counts : CountsFit c.args.image.now = c.counts_fit.ensures.0 c.if-not-counts_fit.false in
    let owned = owned_of c.args.image.now c.in_ok-directory.directory c.in_ok-blocks.blocks c.in_ok-directory.ensures.image c.in_ok-blocks.ensures in
    (all_hold c.args.image.now counts owned.0 (blocks_too c.args.image.now (owned_blocks c.args.image.now) c.in_ok-blocks.blocks owned.1 none), owned.1)

pub returns-then-none_is_free-clause-first : goal.returns-then-none_is_free-clause-first
returns-then-none_is_free-clause-first c =
    let image = c.args.image.now in
    one_verdict image 1 6 None (first_fault image sound_conditions) (returns-then-none_is_free-clause-verdict c).0 (sound_verdict image)

pub returns-else-none_is_free-clause-verdict : goal.returns-else-none_is_free-clause-verdict
returns-else-none_is_free-clause-verdict c =
    let counts : CountsFit c.args.image.now = c.counts_fit.ensures.0 c.if-not-counts_fit.false in
    let owned = owned_of c.args.image.now c.in_ok-directory.directory c.in_ok-blocks.blocks c.in_ok-directory.ensures.image c.in_ok-blocks.ensures in
    marked_free c.args.image.now counts owned.0 (λ all.
    let known = c.none_is_free.ensures.1 (members_too c.args.image.now (owned_blocks c.args.image.now) c.in_ok-blocks.blocks owned.1 all) in
    let f : true ≡ false = sym known ∙ c.if-none_is_free.false in
    cc)

pub returns-else-none_is_free-clause-first : goal.returns-else-none_is_free-clause-first
returns-else-none_is_free-clause-first c = sound_first c.args.image.now MarkedFree (returns-else-none_is_free-clause-verdict c)
