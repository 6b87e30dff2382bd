-- What is printed of a text that is not a program: its faulty lines, in the form of compilers.
use Rattle.std.specs.Prelude.{ℕ, ◌-◌, nat_le, if◌then◌else◌, List, [], ◌++◌, length, take, codes, Option}
use Rattle.std.specs.List.{flat_map}
use Rattle.cbm_text.specs.BasicText.{basic_fault_line}
use Rattle.cbm_text.specs.Causes.{cause_text}
use Rattle.cbm_text.specs.declared.faulty_text.FaultyLine.{FaultyLine}
use Rattle.script_lines.specs.BasicFiles.{status_of_basic}
use Rattle.out_messages.specs.ShownStart.{shown_start}
use Rattle.out_messages.specs.Words.{counted_text}
use Rattle.cmd_basic.specs.RefusalLine.{refusal_line}

-- the most faulty lines that are printed
abbrev pub most_refused_lines : ℕ
most_refused_lines = 20

-- a line that does not begin at the left margin
unfoldable pub indented : List ℕ → List ℕ
indented text = codes "    " ++ (text ++ codes "\n")

-- a faulty line of the input of this name: its refusal, and its first characters below
unfoldable pub faulty_line : Option (List ℕ) → FaultyLine → List ℕ
faulty_line name line =
    refusal_line name (basic_fault_line line.fault) (status_of_basic line.fault) (cause_text line.cause) ++ indented (shown_start line.text.now)

-- how many of this many faulty lines are not printed, if there are any
unfoldable pub more_lines : ℕ → List ℕ
more_lines count = if nat_le count most_refused_lines then [] else codes "    and " ++ (counted_text (count - most_refused_lines) (codes "more faulty line") ++ codes "\n")

-- what is printed of a text with these faulty lines
unfoldable pub refused_text : Option (List ℕ) → List FaultyLine → List ℕ
refused_text name lines = flat_map (faulty_line name) (take most_refused_lines lines) ++ more_lines (length lines)
