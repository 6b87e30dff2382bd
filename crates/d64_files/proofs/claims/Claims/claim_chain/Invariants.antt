use Rattle.std.proofs.Common.{◌<◌, length}
use Rattle.d64_files.proofs.Following.{Followed}
use Rattle.d64_files.proofs.claims.Claims.claim_chain.Given as goal

abbrev pub invariant-loop : goal.invariant-loop
invariant-loop l = record {
  followed : Followed l.image l.initial.last l.last l.counter l.fn.self l.self;
  inside : l.last < length l.image;
}
