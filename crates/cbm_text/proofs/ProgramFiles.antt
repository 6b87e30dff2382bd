-- Program files, line by line.
use Rattle.std.proofs.Common.{◌≡◌, ◌≢◌, ℕ, suc, ◌+◌, ◌-◌, ◌*◌, ◌%◌, ◌/◌, ◌<◌, ◌≤◌, List, [], ◌∷◌, ◌++◌, length, take, drop, get_or, Contains, refl, sym, ◌∙◌, ap, subst, append_assoc, arith}
use Rattle.std.specs.Prelude.{◌==◌, position, Bool, true, false, cond, Some, None}
use Rattle.std.proofs.lemmas.List.{append-nil, take-append-drop, drop_more, length-take, get_or-take, take_all}
use Rattle.std.proofs.lemmas.List.Quantifiers.{position-Some}
use Rattle.std.proofs.lemmas.Bool.{eqb-true, eqb-false, ltb-false}
use Rattle.std.proofs.lemmas.List.Sums.{fails_before_first}
use Rattle.std.specs.List.{position_or_len}
use Rattle.cbm_text.specs.Program.{ProgramLine, Program, BeginsLine, LinesRead, ReadsProgram, word}
use Rattle.cbm_text.specs.Listing.{IsListing, Lists}
use Rattle.cbm_text.specs.Modes.{expanded_bytes, listing, line_listing}
use Rattle.cbm_text.proofs.LinePieces.{listed_by_modes}

-- ---- bytes without $00

-- a list has its first element, and what its rest has
head_in : (x : ℕ) (xs : List ℕ) → Contains (x ∷ xs) x
head_in x xs = (0, omega arith, refl)

tail_in : (x y : ℕ) (xs : List ℕ) → Contains xs y → Contains (x ∷ xs) y
tail_in x y xs (k, within, is) = (suc k, omega arith, is)

-- the first $00 is in one place
zero_once : (xs ys a b : List ℕ) → ¬ (Contains xs 0) → ¬ (Contains ys 0) → xs ++ 0 ∷ a ≡ ys ++ 0 ∷ b → a ≡ b
zero_once [] [] a b no_x no_y same = let same' : 0 ∷ a ≡ 0 ∷ b = same in cc
zero_once [] (y ∷ ys) a b no_x no_y same =
    let same' : 0 ∷ a ≡ y ∷ (ys ++ 0 ∷ b) = same in
    let zero : y ≡ 0 = cc in
    absurd (no_y (subst (λ (n : ℕ). Contains (y ∷ ys) n) zero (head_in y ys)))
zero_once (x ∷ xs) [] a b no_x no_y same =
    let same' : x ∷ (xs ++ 0 ∷ a) ≡ 0 ∷ b = same in
    let zero : x ≡ 0 = cc in
    absurd (no_x (subst (λ (n : ℕ). Contains (x ∷ xs) n) zero (head_in x xs)))
zero_once (x ∷ xs) (y ∷ ys) a b no_x no_y same =
    let same' : x ∷ (xs ++ 0 ∷ a) ≡ y ∷ (ys ++ 0 ∷ b) = same in
    let tails : xs ++ 0 ∷ a ≡ ys ++ 0 ∷ b = cc in
    zero_once xs ys a b (λ within. no_x (tail_in x 0 xs within)) (λ within. no_y (tail_in y 0 ys within)) tails

-- ---- one line

-- two bytes make a number, and it is these bytes
pub word_of : (low high : ℕ) → low < 256 → high < 256 → word (high * 256 + low) ≡ low ∷ high ∷ []
word_of low high small_low small_high =
    let first : (high * 256 + low) % 256 ≡ low = omega arith in
    let second : (high * 256 + low) / 256 ≡ high = omega arith in
    ap (λ (n : ℕ). n ∷ (high * 256 + low) / 256 ∷ []) first ∙ ap (λ (n : ℕ). low ∷ n ∷ []) second

-- the end mark
pub end_read : (bytes : List ℕ) → 2 ≤ length bytes → get_or bytes 0 0 ≡ 0 → get_or bytes 1 0 ≡ 0 → LinesRead bytes []
unfolding LinesRead
end_read [] long first second = absurd (omega arith)
end_read (a ∷ []) long first second = absurd (omega arith)
end_read (a ∷ b ∷ behind) long first second = (behind, ap (λ (n : ℕ). n ∷ b ∷ behind) first ∙ ap (λ (n : ℕ). 0 ∷ n ∷ behind) second)

-- no end mark
pub not_end : (bytes : List ℕ) → ¬ ((2 ≤ length bytes) × (get_or bytes 0 0 ≡ 0) × (get_or bytes 1 0 ≡ 0)) → ¬ (LinesRead bytes [])
unfolding LinesRead
not_end bytes no_end (behind, is) =
    no_end (subst (λ (w : List ℕ). 2 ≤ length w) (sym is) (omega arith), ap (λ (w : List ℕ). get_or w 0 0) is, ap (λ (w : List ℕ). get_or w 1 0) is)

-- the link of bytes that don't end
pub link_of : (bytes rest : List ℕ) (a b : ℕ) → bytes ≡ a ∷ b ∷ rest → ¬ (LinesRead bytes []) → ¬ ((a ≡ 0) × (b ≡ 0))
unfolding LinesRead
link_of bytes rest a b is no_end (first, second) = no_end (rest, is ∙ ap (λ (n : ℕ). n ∷ b ∷ rest) first ∙ ap (λ (n : ℕ). 0 ∷ n ∷ rest) second)

-- bytes by their first four
pub four_first : (bytes : List ℕ) → 4 ≤ length bytes
    → bytes ≡ get_or bytes 0 0 ∷ get_or bytes 1 0 ∷ get_or bytes 2 0 ∷ get_or bytes 3 0 ∷ take (length bytes - 4) (drop 4 bytes)
four_first [] long = absurd (omega arith)
four_first (a ∷ []) long = absurd (omega arith)
four_first (a ∷ b ∷ []) long = absurd (omega arith)
four_first (a ∷ b ∷ c ∷ []) long = absurd (omega arith)
four_first (a ∷ b ∷ c ∷ d ∷ rest) long = ap (λ (w : List ℕ). a ∷ b ∷ c ∷ d ∷ w) (sym (take_all (length (a ∷ b ∷ c ∷ d ∷ rest) - 4) rest (omega arith)))

-- the part before the first $00, and the part behind it
pub record EndsAt (rest bytes behind : List ℕ) : Type 0 where
  pub joined : rest ≡ bytes ++ 0 ∷ behind
  pub no_zero : ¬ (Contains bytes 0)

pub ends_at : (rest : List ℕ) (n : ℕ) → position (λ b. b == 0) rest ≡ Some n → EndsAt rest (take n rest) (drop (n + 1) rest)
ends_at rest n found =
    let at = position-Some (λ (b : ℕ). b == 0) rest n 0 found in
    let zero : get_or rest n 0 ≡ 0 = eqb-true _ _ at.1 in
    record {
      joined = sym (take-append-drop n rest) ∙ ap (λ (w : List ℕ). take n rest ++ w) (drop_more rest n 0 at.0 ∙ ap (λ (c : ℕ). c ∷ drop (n + 1) rest) zero);
      no_zero = λ (k, within, is).
          let before : k < n = omega (arith, within, length-take n rest) in
          eqb-false _ _ (at.2 k before) (sym (get_or-take n rest k 0 before) ∙ is);
    }

-- a line that begins the bytes
pub line_begins : (bytes rest line behind : List ℕ) (low high a b : ℕ) → low < 256 → high < 256 → bytes ≡ a ∷ b ∷ low ∷ high ∷ rest → ¬ ((a ≡ 0) × (b ≡ 0)) → EndsAt rest line behind
    → BeginsLine bytes (record { number = high * 256 + low; bytes = line }) behind
line_begins bytes rest line behind low high a b small_low small_high is link ends = record {
  low = a;
  high = b;
  joined = is ∙ ap (λ (w : List ℕ). a ∷ b ∷ low ∷ high ∷ w) ends.joined ∙ ap (λ (w : List ℕ). a ∷ b ∷ w ++ line ++ 0 ∷ behind) (sym (word_of low high small_low small_high));
  link = link;
  number = omega arith;
  no_zero = ends.no_zero;
}

-- what is left behind a line is one thing
pub rest_once : (bytes : List ℕ) (x y : ProgramLine) (rest other : List ℕ) → BeginsLine bytes x rest → BeginsLine bytes y other → rest ≡ other
rest_once bytes x y rest other begins begins_y =
    let same : begins.low ∷ begins.high ∷ (x.number % 256) ∷ (x.number / 256) ∷ (x.bytes ++ 0 ∷ rest) ≡ begins_y.low ∷ begins_y.high ∷ (y.number % 256) ∷ (y.number / 256) ∷ (y.bytes ++ 0 ∷ other) = sym begins.joined ∙ begins_y.joined in
    zero_once x.bytes y.bytes rest other begins.no_zero begins_y.no_zero (ap (λ (w : List ℕ). drop 4 w) same)

-- no line begins at the end mark
pub no_line : (bytes : List ℕ) (line : ProgramLine) (rest behind : List ℕ) → BeginsLine bytes line rest → bytes ≢ 0 ∷ 0 ∷ behind
no_line bytes line rest behind begins is =
    let same : begins.low ∷ begins.high ∷ (word line.number ++ line.bytes ++ 0 ∷ rest) ≡ 0 ∷ 0 ∷ behind = sym begins.joined ∙ is in
    begins.link (ap (λ (w : List ℕ). get_or w 0 0) same, ap (λ (w : List ℕ). get_or w 1 0) same)

-- ---- bytes that are cut short

-- a line has five bytes or more
line_long : (bytes : List ℕ) (line : ProgramLine) (rest : List ℕ) → BeginsLine bytes line rest → 5 ≤ length bytes
line_long bytes line rest begins = subst (λ (w : List ℕ). 5 ≤ length w) (sym begins.joined) (omega (arith, some_left line.bytes rest))
  where
    some_left : (xs rest : List ℕ) → 1 ≤ length (xs ++ 0 ∷ rest)
    some_left [] rest = omega arith
    some_left (x ∷ xs) rest = omega arith

-- fewer than four bytes, and no end mark, read as nothing
pub short_reads : (bytes : List ℕ) → length bytes < 4 → ¬ (LinesRead bytes []) → (program : Program) → ¬ (LinesRead bytes program)
unfolding LinesRead
short_reads bytes short no_end [] end = no_end end
short_reads bytes short no_end (line ∷ lines) (rest, begins, read) = absurd (omega (arith, line_long bytes line rest begins))

-- bytes without a $00 behind the number, and no end mark, read as nothing
pub endless_reads : (bytes rest : List ℕ) (a b low high : ℕ) → bytes ≡ a ∷ b ∷ low ∷ high ∷ rest → ¬ ((a ≡ 0) × (b ≡ 0)) → ¬ (Contains rest 0) → (program : Program) → ¬ (LinesRead bytes program)
unfolding LinesRead
endless_reads bytes rest a b low high is link none [] (behind, end) =
    let same : a ∷ b ∷ low ∷ high ∷ rest ≡ 0 ∷ 0 ∷ behind = sym is ∙ end in
    link (ap (λ (w : List ℕ). get_or w 0 0) same, ap (λ (w : List ℕ). get_or w 1 0) same)
endless_reads bytes rest a b low high is link none (line ∷ lines) (left, begins, read) =
    let same : a ∷ b ∷ low ∷ high ∷ rest ≡ begins.low ∷ begins.high ∷ (line.number % 256) ∷ (line.number / 256) ∷ (line.bytes ++ 0 ∷ left) = sym is ∙ begins.joined in
    let tails : rest ≡ line.bytes ++ 0 ∷ left = ap (λ (w : List ℕ). drop 4 w) same in
    none (subst (λ (w : List ℕ). Contains w 0) (sym tails) (zero_in line.bytes left))
  where
    zero_in : (xs ys : List ℕ) → Contains (xs ++ 0 ∷ ys) 0
    zero_in [] ys = head_in 0 ys
    zero_in (x ∷ xs) ys = tail_in x 0 (xs ++ 0 ∷ ys) (zero_in xs ys)

-- no $00 anywhere
pub no_zero_place : (rest : List ℕ) → position (λ b. b == 0) rest ≡ None → ¬ (Contains rest 0)
no_zero_place rest none (k, within, is) =
    let past : length rest ≤ position_or_len (λ b. b == 0) rest = ltb-false _ _ (past_none _ _ none) in
    eqb-false _ _ (fails_before_first (λ (b : ℕ). b == 0) rest k 0 (omega arith)) is
  where
    past_none : (b : Bool) (x : ℕ) → cond b (Some x) None ≡ None → b ≡ false
    past_none true x is = absurd cc
    past_none false x is = refl

-- ---- line by line

-- what has been listed of the lines of a file, and what is left of them: with what the rest reads
-- as, the whole reads, and if the whole reads, the rest does
pub record ListedSoFar (lines text left : List ℕ) : Type 0 where
  pub before : Program
  pub listed : text ≡ listing before
  pub completes : (more : Program) → LinesRead left more → LinesRead lines (before ++ more)
  pub only : (all : Program) → LinesRead lines all → (more : Program) × LinesRead left more

pub listed_nothing : (lines : List ℕ) → ListedSoFar lines [] lines
unfolding listing
listed_nothing lines = record { before = []; listed = refl; completes = λ more read. read; only = λ all read. (all, read) }

-- the listing of one line more
listing_more : (before : Program) (line : ProgramLine) → listing (before ++ line ∷ []) ≡ listing before ++ line_listing line
unfolding listing
listing_more [] line = append-nil (line_listing line)
listing_more (first ∷ before) line = ap (λ (w : List ℕ). line_listing first ++ w) (listing_more before line) ∙ sym (append_assoc (line_listing first) (listing before) (line_listing line))

-- what follows a line, if the lines read
behind_line : (left : List ℕ) (line : ProgramLine) (rest : List ℕ) (all : Program) → BeginsLine left line rest → LinesRead left all → (more : Program) × LinesRead rest more
unfolding LinesRead
behind_line left line rest [] begins (behind, is) = absurd (no_line left line rest behind begins is)
behind_line left line rest (other ∷ more) begins (rest', begins', read) = (more, subst (λ (w : List ℕ). LinesRead w more) (sym (rest_once left line other rest rest' begins begins')) read)

one_line : (left : List ℕ) (line : ProgramLine) (rest : List ℕ) (more : Program) → BeginsLine left line rest → LinesRead rest more → LinesRead left (line ∷ more)
unfolding LinesRead
one_line left line rest more begins read = (rest, begins, read)

pub listed_more : (lines text left : List ℕ) (line : ProgramLine) (rest : List ℕ) → ListedSoFar lines text left → BeginsLine left line rest → ListedSoFar lines (text ++ line_listing line) rest
listed_more lines text left line rest so_far begins = record {
  before = so_far.before ++ line ∷ [];
  listed = ap (λ (w : List ℕ). w ++ line_listing line) so_far.listed ∙ sym (listing_more so_far.before line);
  completes = λ more read. subst (λ (w : Program). LinesRead lines w) (sym (append_assoc so_far.before (line ∷ []) more)) (so_far.completes (line ∷ more) (one_line left line rest more begins read));
  only = λ all read. let before = so_far.only all read in behind_line left line rest before.0 begins before.1;
}

-- the program, at the end mark
pub listed_whole : (lines text left : List ℕ) → ListedSoFar lines text left → LinesRead left [] → (program : Program) × LinesRead lines program × (text ≡ listing program)
listed_whole lines text left so_far end = (so_far.before, subst (λ (w : Program). LinesRead lines w) (append-nil so_far.before) (so_far.completes [] end), so_far.listed)

-- no program, if what is left reads as no program
pub listed_never : (lines text left : List ℕ) → ListedSoFar lines text left → ((more : Program) → ¬ (LinesRead left more)) → (all : Program) → ¬ (LinesRead lines all)
listed_never lines text left so_far never all read = let rest = so_far.only all read in never rest.0 rest.1

-- ---- the file

-- a file by its first two bytes
pub file_reads : (file : List ℕ) (program : Program) → 2 ≤ length file → LinesRead (take (length file - 2) (drop 2 file)) program → ReadsProgram file program
unfolding ReadsProgram
file_reads [] program long read = absurd (omega arith)
file_reads (a ∷ []) program long read = absurd (omega arith)
file_reads (a ∷ b ∷ lines) program long read = (a, b, lines, refl, subst (λ (w : List ℕ). LinesRead w program) (take_all (length (a ∷ b ∷ lines) - 2) lines (omega arith)) read)

pub file_never : (file : List ℕ) → 2 ≤ length file → ((program : Program) → ¬ (LinesRead (take (length file - 2) (drop 2 file)) program)) → (program : Program) → ¬ (ReadsProgram file program)
unfolding ReadsProgram
file_never [] long never program read = absurd (omega arith)
file_never (a ∷ []) long never program read = absurd (omega arith)
file_never (a ∷ b ∷ lines) long never program (low, high, rest, is, read) =
    let same : lines ≡ rest = ap (λ (w : List ℕ). drop 2 w) is in
    never program (subst (λ (w : List ℕ). LinesRead w program) (sym same ∙ sym (take_all (length (a ∷ b ∷ lines) - 2) lines (omega arith))) read)

-- ---- the listing

pub listing_of_program : (program : Program) → IsListing program (listing program)
unfolding IsListing listing
listing_of_program [] = refl
listing_of_program (line ∷ lines) = (expanded_bytes line.bytes, listing lines, listed_by_modes line.bytes, listing_of_program lines, refl)

pub lists_program : (file text : List ℕ) (program : Program) → ReadsProgram file program → text ≡ listing program → Lists file text
unfolding Lists
lists_program file text program read is = (program, read, subst (λ (w : List ℕ). IsListing program w) (sym is) (listing_of_program program))
