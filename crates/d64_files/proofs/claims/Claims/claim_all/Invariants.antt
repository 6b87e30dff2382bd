use Rattle.std.proofs.Common.{◌≡◌, ℕ, List, ◌++◌, take}
use Rattle.d64_files.specs.Claims.{claims_of}
use Rattle.d64_files.proofs.claims.Claims.claim_all.Given as goal

abbrev pub invariant-loop-block : goal.invariant-loop-block
invariant-loop-block l = (before : List ℕ) → l.fn.self ≡ claims_of before → l.self ≡ claims_of (before ++ take l.block-index l.blocks)
