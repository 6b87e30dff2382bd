use Rattle.std.proofs.Common.{◌<◌, All, refl}
use Rattle.std.specs.Prelude.{nat_lt}
use Rattle.std.proofs.lemmas.Bool.{ltb-true}
use Rattle.std.proofs.lemmas.List.Sums.{AllPass-from_list_all}
use Rattle.std.proofs.lemmas.Str.Ascii.{IsAscii-from_all}
use Rattle.hex.specs.Hex.{lower_digits}
use Rattle.hex.proofs.HexLemmas.{IsAscii-encode_with}
use Rattle.out_json_csv.proofs.hexadecimal.digits_are_ascii.Goals as goal

-- the sixteen digits, by a test of each
digits-ascii : All (λ byte. byte < 128) lower_digits
digits-ascii = λ k d within. ltb-true _ _ (AllPass-from_list_all (λ byte. nat_lt byte 128) lower_digits refl k d within)

pub returns : goal.returns
returns c = IsAscii-encode_with lower_digits c.args.bytes.now (IsAscii-from_all lower_digits digits-ascii)
