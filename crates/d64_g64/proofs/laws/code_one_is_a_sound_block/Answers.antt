use Rattle.std.proofs.Common.{ℕ, Bool, refl, ap, sym, ◌∙◌}
use Rattle.std.specs.Prelude.{is_some}
use Rattle.std.specs.List.{find}
use Rattle.d64_image.specs.Block.{pair_at}
use Rattle.d64_g64.specs.Starts.{start_pairs}
use Rattle.d64_g64.specs.Headers.{names_block}
use Rattle.d64_g64.specs.Blocks.{names_readable}
use Rattle.d64_g64.specs.File.{track_of}
use Rattle.d64_g64.specs.Dump.{id_in, block_code, block_bytes}
use Rattle.d64_g64.proofs.SoundHeaders.{search_is, code_of_sound, sound_of_code, bytes_of_sound}
use Rattle.d64_g64.proofs.laws.code_one_is_a_sound_block.Goals as goal

pub returns-clause-code : goal.returns-clause-code
unfolding block_code
returns-clause-code c = λ file block.
    let track = track_of file (pair_at block).0 in
    let t = (pair_at block).0 in
    let s = (pair_at block).1 in
    let p : ℕ × ℕ → Bool = names_readable (id_in file) track t s in
    let same = search_is file track block in (
      λ one. ap is_some (sym same) ∙ sound_of_code (id_in file) track t s (find p (start_pairs track)) (find (names_block track t s) (start_pairs track)) refl refl one,
      λ some. code_of_sound (id_in file) track t s (find p (start_pairs track)) refl (ap is_some same ∙ some),
    )

pub returns-clause-bytes : goal.returns-clause-bytes
unfolding block_bytes
returns-clause-bytes c = λ file block pair found. bytes_of_sound file (track_of file (pair_at block).0) block pair found
