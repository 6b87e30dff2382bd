use Rattle.std.proofs.Common.{◌≡◌, drop}
use Rattle.cbm_text.specs.Keywords.{keywords, token_from}
use Rattle.cbm_text.proofs.Keywords.{first_of}
use Rattle.cbm_text.proofs.keyword.first_token.Given as goal

-- the text begins with no keyword so far
abbrev pub invariant-loop-token : goal.invariant-loop-token
invariant-loop-token l = token_from 128 keywords l.text ≡ first_of (drop l.token-index l.token-items) l.text
