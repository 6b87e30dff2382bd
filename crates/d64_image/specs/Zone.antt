-- Zones: neighbouring tracks with the same number of sectors.
use Rattle.std.specs.Prelude.{◌≡◌, ℕ, ◌+◌, ◌-◌, ◌*◌, ◌<◌, ◌≤◌}
use Rattle.d64_image.specs.Block.{sectors_on, first_block}
use Rattle.d64_image.specs.declared.block.Zone.{Zone}

-- a track lies in a zone: it has the zone's number of sectors, and its first block is counted from
-- the zone's first block by whole tracks
pub record LiesIn (zone : Zone) (track : ℕ) : Type 0 where
  pub starts : zone.first_track ≤ track
  pub within : track < 41
  pub sectors : zone.sectors ≡ sectors_on track
  pub few : zone.sectors < 22
  pub first : first_block track ≡ zone.first_block + (track - zone.first_track) * zone.sectors
