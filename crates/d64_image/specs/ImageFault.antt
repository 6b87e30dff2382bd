-- Why bytes make no image.
use Rattle.std.specs.Prelude.{ℕ, Option, Some, None, Result, Ok, Err}
use Rattle.d64_image.specs.declared.image.ImageFault.{ImageFault}
use Rattle.d64_image.specs.declared.image.ImageFault.TheVariants.{WrongLength, Memory}

-- the length for which bytes were refused; None if they made an image, or there was no memory
abbrev pub wrong_length : {A : Type 0} → Result A ImageFault → Option ℕ
wrong_length (Ok image) = None
wrong_length (Err (WrongLength length)) = Some length
wrong_length (Err (Memory fault)) = None
