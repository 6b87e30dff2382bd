-- Who may use a file in place of another one.
use Rattle.std.specs.Prelude.{ℕ, ◌+◌, ◌*◌, ◌/◌, ◌%◌, Bool, if◌then◌else◌, bit_and}

-- the permissions in a mode of the owner of a file, its group, and all others: three bits each
abbrev pub for_owner : ℕ → ℕ
for_owner mode = mode / 0o100 % 0o10

abbrev pub for_group : ℕ → ℕ
for_group mode = mode / 0o10 % 0o10

abbrev pub for_others : ℕ → ℕ
for_others mode = mode % 0o10

-- the mode of a new file that replaces one of this mode: its nine permission bits and no other,
-- such as those that give a program its owner's rights; under another owner or group, the group and
-- all others get what both had before
abbrev pub kept_mode : ℕ → Bool → ℕ
kept_mode mode is_of_same =
    if is_of_same then mode % 0o1000 else for_owner mode * 0o100 + bit_and (for_group mode) (for_others mode) * 0o11
