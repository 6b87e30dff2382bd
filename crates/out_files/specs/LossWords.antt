-- One word for each reason why a deleted file isn't whole.
use Rattle.std.specs.Prelude.{ℕ, List, codes}
use Rattle.d64_scratched.specs.declared.loss.Loss.{Loss}
use Rattle.d64_scratched.specs.declared.loss.Loss.TheVariants.{Chain, Reused, Marked, Size, Claimed, Unreadable}

-- the word for a reason
abbrev pub loss_word : Loss → List ℕ
loss_word Chain = codes "chain"
loss_word Reused = codes "reused"
loss_word Marked = codes "marked"
loss_word Size = codes "size"
loss_word Claimed = codes "claimed"
loss_word Unreadable = codes "error"
