-- How many arguments follow a command: if there are too few, one is missing, and if there are too
-- many, they are refused.
use Rattle.std.specs.Prelude.{nat_le, if◌then◌else◌, List, [], ◌∷◌, length, Option, Some, None}
use Rattle.d64_image.specs.Disk.{Bytes}
use Rattle.script_lines.specs.Act.{Act, Give, Refuse, ◌>>=◌}
use Rattle.script_lines.specs.declared.status.Status.TheVariants.{SyntaxError, MissingArgument}

abbrev pub no_argument : List Bytes → Act (Unit {0})
no_argument [] = Give tt
no_argument arguments = Refuse SyntaxError

abbrev pub one_argument : List Bytes → Act Bytes
one_argument [] = Refuse MissingArgument
one_argument (argument ∷ []) = Give argument
one_argument arguments = Refuse SyntaxError

abbrev pub at_most_one : List Bytes → Act (Option Bytes)
at_most_one [] = Give None
at_most_one (argument ∷ []) = Give (Some argument)
at_most_one arguments = Refuse SyntaxError

-- an argument, and those after it as they are read
abbrev pub argument_and : {A : Type 0} → (List Bytes → Act A) → List Bytes → Act (Bytes × A)
argument_and others [] = Refuse MissingArgument
argument_and others (argument ∷ arguments) = others arguments >>= (λ more. Give (argument, more))

-- 1 to 512 arguments
abbrev pub some_arguments : List Bytes → Act (List Bytes)
some_arguments [] = Refuse MissingArgument
some_arguments arguments = if nat_le (length arguments) 512 then Give arguments else Refuse SyntaxError
