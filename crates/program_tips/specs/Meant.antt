-- What was probably meant by arguments that are refused.
use Rattle.std.specs.Prelude.{◌==◌, ◌||◌, ◌&&◌, not, false, Bool, ℕ, List, [], ◌∷◌, if◌then◌else◌, map, Option, Some, None}
use Rattle.std.specs.List.{list_any}
use Rattle.program_tips.specs.declared.meant.Meant.{Meant}

abbrev pub Text : Type 0
Text = List ℕ

-- an argument has a full stop or a slash, as paths of files have
abbrev pub is_path_like : Text → Bool
is_path_like argument = list_any (λ byte. byte == 46 || byte == 47) argument

-- an argument is an option: it begins with a hyphen
abbrev pub is_option : Text → Bool
is_option [] = false
is_option (first ∷ rest) = first == 45

-- one of these arguments looks like a path
abbrev pub has_path_like : List Text → Bool
has_path_like arguments = list_any is_path_like arguments

-- an argument may be an image that is followed by these: it is no option, and it looks like a path or
-- none of them does
abbrev pub may_be_image : Text → List Text → Bool
may_be_image argument rest = not (is_option argument) && (is_path_like argument || not (has_path_like rest))

-- the first of these arguments is there, and may be a command: it is no option and no path
abbrev pub begin_with_line : List Text → Bool
begin_with_line [] = false
begin_with_line (first ∷ rest) = not (is_option first) && not (is_path_like first)

-- an image, and the arguments after it
abbrev pub MeantParts : Type 0
MeantParts = Text × List Text

abbrev pub meant_parts : Meant → MeantParts
meant_parts meant = (meant.image.now, map (λ argument. argument.now) meant.rest.now)

-- an image in the place of the subcommand, which follows the program's name
abbrev pub image_first : List Text → Option MeantParts
image_first (program ∷ (image ∷ rest)) = if is_path_like image then Some (image, rest) else None
image_first arguments = None

-- a line after the image, which follows the names of the program and of the subcommand
abbrev pub line_after_image : List Text → Option MeantParts
line_after_image (program ∷ (name ∷ (image ∷ rest))) = if may_be_image image rest && begin_with_line rest then Some (image, rest) else None
line_after_image arguments = None
