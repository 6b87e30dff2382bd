-- The name that a file of an image gets on a host, if no other file has it.
use Rattle.std.specs.Prelude.{ℕ, ◌-◌, ◌==◌, ◌&&◌, ◌||◌, nat_eq, Bool, if◌then◌else◌, List, [], ◌∷◌, ◌++◌, length, map, take, slice_index, slice_set, codes, decimal}
use Rattle.std.specs.Int.{is_in_range}
use Rattle.std.specs.List.{list_any, before_first}
use Rattle.std.specs.Str.{str_eq_ignore_ascii_case}
use Rattle.host_names.specs.declared.ending.Ending.{Ending}
use Rattle.host_names.specs.declared.ending.Ending.TheVariants.{Del, Seq, Prg, Usr, Rel, Deleted, Orphan}

-- ` `, `.`, `/` and `_`
abbrev pub trailing_space : ℕ
trailing_space = 32

abbrev pub full_stop : ℕ
full_stop = 46

abbrev pub slash : ℕ
slash = 47

abbrev pub underscore : ℕ
underscore = 95

-- the characters that some host takes in no name: / \ < > : " | ? *
unfoldable pub forbidden_characters : List ℕ
forbidden_characters = codes "/\\<>:\"|?*"

-- a byte is one of them
unfoldable pub is_forbidden : ℕ → Bool
is_forbidden byte = list_any (nat_eq byte) forbidden_characters

-- a name in which each of them became `_`
unfoldable pub allowed_name : List ℕ → List ℕ
allowed_name name = map (λ byte. if is_forbidden byte then underscore else byte) name

-- a name whose first byte, where it was a `.`, became `_`
abbrev pub unhidden_name : List ℕ → List ℕ
unhidden_name name = if slice_index name 0 == full_stop then slice_set name 0 underscore else name

-- a byte with which no name ends on some host: `.` or a space
abbrev pub is_loose : ℕ → Bool
is_loose byte = byte == full_stop || byte == trailing_space

-- a name whose last byte, where it was a `.` or a space, became `_`
abbrev pub closed_name : List ℕ → List ℕ
closed_name name = if is_loose (slice_index name (length name - 1)) then slice_set name (length name - 1) underscore else name

-- a name that was empty became `_`
abbrev pub filled_name : List ℕ → List ℕ
filled_name name = if length name == 0 then underscore ∷ [] else name

-- two names are the same where small and capital letters are taken as one
abbrev pub is_same_name : List ℕ → List ℕ → Bool
is_same_name one other = str_eq_ignore_ascii_case one other

-- what is before the first `.` of a name, or all of it
abbrev pub before_dot : List ℕ → List ℕ
before_dot name = before_first (λ byte. byte == full_stop) name

-- a name without the spaces at its end
unfoldable pub without_last_spaces : List ℕ → List ℕ
without_last_spaces [] = []
without_last_spaces (byte ∷ rest) =
    if byte == trailing_space && length (without_last_spaces rest) == 0 then [] else byte ∷ without_last_spaces rest

-- what some host takes for the name of a device where it is one: what comes before the first `.`,
-- without the spaces at its end
abbrev pub device_name : List ℕ → List ℕ
device_name name = without_last_spaces (before_dot name)

-- the devices that some host has by a name without a number
abbrev pub devices : List (List ℕ)
devices =
    codes "con" ∷ codes "prn" ∷ codes "aux" ∷ codes "nul" ∷ codes "conin$" ∷ codes "conout$" ∷ codes "clock$" ∷ []

-- the ports that it has by a name and a number from 1 to 9
abbrev pub ports : List (List ℕ)
ports = codes "com" ∷ codes "lpt" ∷ []

-- a name is that of a port
abbrev pub is_port : List ℕ → Bool
is_port name =
    (length name == 4)
    && (is_in_range 49 57 (slice_index name 3)
    && list_any (is_same_name (take 3 name)) ports)

-- a name is that of a device or a port, in any case
unfoldable pub is_reserved : List ℕ → Bool
is_reserved name = list_any (is_same_name name) devices || is_port name

-- a name with a `_` in front, if some host takes it for that of a device
abbrev pub unreserved_name : List ℕ → List ℕ
unreserved_name name = if is_reserved (device_name name) then underscore ∷ name else name

-- what the host name of a file begins with whose name is this text: the rules are applied one after
-- another
unfoldable pub stem : List ℕ → List ℕ
stem text = unreserved_name (filled_name (closed_name (unhidden_name (allowed_name text))))

-- the ending by the kind of a file, or by why it has none
unfoldable pub ending_text : Ending → List ℕ
ending_text Del = codes ".del"
ending_text Seq = codes ".seq"
ending_text Prg = codes ".prg"
ending_text Usr = codes ".usr"
ending_text Rel = codes ".rel"
ending_text Deleted = codes ".deleted"
ending_text Orphan = codes ".orphan"

-- what follows the ending: `.part` where the file is written in part
unfoldable pub part_ending : Bool → List ℕ
part_ending is_part = if is_part then codes ".part" else []

-- what the host name of a file ends with
unfoldable pub tail : Ending → Bool → List ℕ
tail ending is_part = ending_text ending ++ part_ending is_part

-- what is before the ending of the name that is tried in this place: of the first one nothing,
-- then ` (2)`, ` (3)` and so on
unfoldable pub number_mark : ℕ → List ℕ
number_mark number = if number == 1 then [] else codes " (" ++ (decimal number ++ codes ")")

-- the name that is tried in this place
unfoldable pub numbered_name : List ℕ → List ℕ → ℕ → List ℕ
numbered_name front back number = front ++ (number_mark number ++ back)

-- the first one: the name that a file gets if no other file has it
abbrev pub host_name : List ℕ → Ending → Bool → List ℕ
host_name text ending is_part = numbered_name (stem text) (tail ending is_part) 1
