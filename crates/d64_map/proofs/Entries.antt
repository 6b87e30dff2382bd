-- the places of the tracks' entries in the map's block
use Rattle.std.proofs.Common.{◌≡◌, ℕ, ◌+◌, ◌-◌, ◌*◌, ◌/◌, ◌%◌, ◌<◌, ◌≤◌, ◌==◌, ◌&&◌, ◌⊎◌, true, false, leb, ltb, sym, ap, ◌∙◌, inl, inr, arith}
use Rattle.std.proofs.lemmas.Bool.{cases_lt, and_parts, and_from, or_cases, or_left, or_right, eq-eqb, eqb-true, leb-true, ltb-true, le-leb, lt-ltb, le-ltb, cond-true, cond-false}
use Rattle.d64_image.specs.Image.{IsSize, tracks_of}
use Rattle.d64_map.specs.Map.{map_entry_place, IsOfTrack, entry_track, is_entry}

pub entry_of-low : (track : ℕ) → track < 36 → map_entry_place track ≡ 4 * track
unfolding map_entry_place
entry_of-low track h = cond-true _ _ _ (lt-ltb track 36 h)

pub entry_of-high : (track : ℕ) → 36 ≤ track → map_entry_place track ≡ 4 * track + 48
unfolding map_entry_place
entry_of-high track h = cond-false _ _ _ (le-ltb track 36 h)

-- the entries are counted by fours
pub entry_of-four : (track : ℕ) → map_entry_place track % 4 ≡ 0
entry_of-four track = elim (cases_lt track 36) [
  | inl low ↦ let e = entry_of-low track low in omega arith
  | inr high ↦ let e = entry_of-high track high in omega arith
]

-- an entry ends before the next one begins
pub entry_apart : (track other : ℕ) → track < other → map_entry_place track + 4 ≤ map_entry_place other
entry_apart track other h = elim (cases_lt track 36) [
  | inl low ↦ let e = entry_of-low track low in
      elim (cases_lt other 36) [
        | inl l ↦ let f = entry_of-low other l in omega arith
        | inr r ↦ let f = entry_of-high other r in omega arith
      ]
  | inr high ↦ let e = entry_of-high track high in let f = entry_of-high other (omega arith) in omega arith
]

-- the last entry ends before the map's block does
pub entry_below : (track : ℕ) → track < 41 → map_entry_place track ≤ 208
entry_below track h = elim (cases_lt track 36) [
  | inl low ↦ let e = entry_of-low track low in omega arith
  | inr high ↦ let e = entry_of-high track high in omega arith
]

-- the first one begins after the four bytes before the map
pub entry_above : (track : ℕ) → 1 ≤ track → 4 ≤ map_entry_place track
entry_above track h = elim (cases_lt track 36) [
  | inl low ↦ let e = entry_of-low track low in omega arith
  | inr high ↦ let e = entry_of-high track high in omega arith
]

-- a place of an entry is one of that track
pub entry_track-of : (track part : ℕ) → track < 41 → part < 4 → entry_track (map_entry_place track + part) ≡ track
unfolding entry_track
entry_track-of track part h k = elim (cases_lt track 36) [
  | inl low ↦ let e = entry_of-low track low in
      cond-true _ _ _ (lt-ltb (map_entry_place track + part) 192 (omega arith)) ∙ omega arith
  | inr high ↦ let e = entry_of-high track high in
      cond-false _ _ _ (le-ltb (map_entry_place track + part) 192 (omega arith)) ∙ omega arith
]

-- a disk has 35 tracks or 40
pub HasTracks : ℕ → Type 0
HasTracks tracks = (tracks ≡ 35) ⊎ (tracks ≡ 40)

pub has_tracks : (count : ℕ) → IsSize count → HasTracks (tracks_of count)
unfolding HasTracks
has_tracks count size = elim size [ inl fewer ↦ inl (ap tracks_of fewer) | inr all ↦ inr (ap tracks_of all) ]

-- the places of entries
low_entry : (tracks place : ℕ) → 4 ≤ place → place < 144 → is_entry tracks place ≡ true
low_entry tracks place l h =
    or_left (leb 4 place && ltb place 144) ((tracks == 40) && (leb 192 place && ltb place 212))
    (and_from (leb 4 place) (ltb place 144) (le-leb 4 place l) (lt-ltb place 144 h))

high_entry : (tracks place : ℕ) → tracks ≡ 40 → 192 ≤ place → place < 212 → is_entry tracks place ≡ true
high_entry tracks place e l h =
    or_right (leb 4 place && ltb place 144) ((tracks == 40) && (leb 192 place && ltb place 212))
    (and_from (tracks == 40) (leb 192 place && ltb place 212) (eq-eqb tracks 40 e) (and_from (leb 192 place) (ltb place 212) (le-leb 192 place l) (lt-ltb place 212 h)))

-- a place of the entry of a track that the disk has
pub entry : (tracks track place : ℕ) → HasTracks tracks → 1 ≤ track → track ≤ tracks → IsOfTrack track place → is_entry tracks place ≡ true
unfolding HasTracks
entry tracks track place has one last of =
    let from = of.0 in
    let to = of.1 in
    let above = entry_above track one in
    elim (cases_lt track 36) [
      | inl low ↦ let e = entry_of-low track low in low_entry tracks place (omega arith) (omega arith)
      | inr high ↦ let e = entry_of-high track high in elim has [
        | inl fewer ↦ absurd (omega arith)
        | inr all ↦ high_entry tracks place all (omega arith) (omega arith)
      ]
    ]

-- the track to whose entry a place belongs
pub record EntryAt (tracks place : ℕ) : Type 0 where
  pub track : ℕ
  pub from_one : 1 ≤ track
  pub within : track ≤ tracks
  pub of : IsOfTrack track place

low_track : (tracks place : ℕ) → HasTracks tracks → 4 ≤ place → place < 144 → EntryAt tracks place
unfolding HasTracks
low_track tracks place has l h =
    let e = entry_of-low (place / 4) (omega arith) in
    let most : place / 4 ≤ tracks = elim has [ inl fewer ↦ omega arith | inr all ↦ omega arith ] in
    record { track = place / 4; from_one = omega arith; within = most; of = (omega arith, omega arith) }

high_track : (tracks place : ℕ) → tracks ≡ 40 → 192 ≤ place → place < 212 → EntryAt tracks place
high_track tracks place all l h =
    let e = entry_of-high ((place - 48) / 4) (omega arith) in
    record { track = (place - 48) / 4; from_one = omega arith; within = omega arith; of = (omega arith, omega arith) }

pub entry_at : (tracks place : ℕ) → HasTracks tracks → is_entry tracks place ≡ true → EntryAt tracks place
entry_at tracks place has h = elim (or_cases (leb 4 place && ltb place 144) ((tracks == 40) && (leb 192 place && ltb place 212)) h) [
  | inl low ↦ let both = and_parts (leb 4 place) (ltb place 144) low in low_track tracks place has (leb-true 4 place both.0) (ltb-true place 144 both.1)
  | inr high ↦
      let both = and_parts (tracks == 40) (leb 192 place && ltb place 212) high in
      let within = and_parts (leb 192 place) (ltb place 212) both.1 in
      high_track tracks place (eqb-true tracks 40 both.0) (leb-true 192 place within.0) (ltb-true place 212 within.1)
]

-- a place that belongs to no entry
pub no_entry : (tracks place : ℕ) → HasTracks tracks → is_entry tracks place ≡ false → (track : ℕ) → 1 ≤ track → track ≤ tracks → IsOfTrack track place → ⊥
no_entry tracks place has none track one last of =
    let e : true ≡ false = sym (entry tracks track place has one last of) ∙ none in absurd (cc)
