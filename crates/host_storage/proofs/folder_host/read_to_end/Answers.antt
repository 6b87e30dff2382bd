use Rattle.std.proofs.Common.{◌≡◌, Err, rules}
use Rattle.host_storage.specs.declared.host.HostFault.TheVariants.{TooLong}
use Rattle.host_storage.proofs.ReadBytes.{longer_before}
use Rattle.host_storage.proofs.folder_host.read_to_end.Goals as goal

-- the file is longer than the limit, since what was read and what was left are
pub returns-in_err-read_piece-clause-too_long : goal.returns-in_err-read_piece-clause-too_long
returns-in_err-read_piece-clause-too_long c = λ c' refused.
    let is_too_long : c'.read_piece.result ≡ Err TooLong = search rules in
    longer_before c'.args.limit _ _ c'.loop.bytes.items c'.loop.invariant.read (c'.read_piece.ensures.too_long is_too_long)
