use Rattle.std.proofs.Common.{◌≡◌, ◌++◌, take}
use Rattle.std.specs.List.{flat_map}
use Rattle.cmd_catalogue.specs.Urls.{url_byte}
use Rattle.cmd_catalogue.proofs.url.push_url_bytes.Given as goal

abbrev pub invariant-loop-byte : goal.invariant-loop-byte
invariant-loop-byte l = l.url.items ≡ l.initial.url.items ++ flat_map url_byte (take l.byte-index l.path)
