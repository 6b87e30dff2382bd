-- The response to a line, as the code has it, by the act of the line.
use Rattle.std.specs.Prelude.{nat_lt, if◌then◌else◌, [], length, Result, Ok, Err}
use Rattle.d64_image.specs.Disk.{Bytes, Disk}
use Rattle.d64_image.specs.Image.{sector_at}
use Rattle.script_text.specs.Dump.{dump}
use Rattle.script_lines.specs.Act.{Act, Ending, world_of, Does, LineResponse, plain_response}
use Rattle.host_storage.specs.Files.{HostState}
use Rattle.d64_history.specs.History.{History, present_image}
use Rattle.script_lines.specs.declared.response.Response.{Response}
use Rattle.script_lines.specs.declared.response.Output.{Output}
use Rattle.script_lines.specs.declared.response.Output.TheVariants.{Nothing, Block, Text}
use Rattle.script_lines.specs.declared.status.Status.{Status}

-- the bytes of an output, for this as the image; a block that the image doesn't have gives no bytes
abbrev pub output_bytes : Disk → Output → Bytes
output_bytes image Nothing = []
output_bytes image (Block at) = if nat_lt at (length image) then dump (sector_at image at) else []
output_bytes image (Text text) = text.items

-- a response as the definitions see it, for this as the image
abbrev pub shown_response : Disk → Response → LineResponse
shown_response image response = record { output = output_bytes image response.output; status = response.status; closes = response.closes }

-- the response to a line: that of an accepted one, or the status that refuses it, with no output
abbrev pub line_response : Disk → Result Response Status → LineResponse
line_response image (Ok response) = shown_response image response
line_response image (Err status) = plain_response status

-- an act is done with a response, by a host and a session: their states before and after
abbrev pub Responds : Act Ending → HostState → History → Result Response Status → HostState → History → Type 0
Responds act old_host old result new_host new = Does act (world_of old_host old) (line_response (present_image new) result) (world_of new_host new)

-- an act is done with a response by the session alone, whatever the host is
abbrev pub RespondsAlone : Act Ending → History → Result Response Status → History → Type 0
RespondsAlone act old result new = (host : HostState) → Responds act host old result host new
