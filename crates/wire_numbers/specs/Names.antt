-- The numbers that commands, statuses and run modes have on the wire, and what looking a number up finds.
use Rattle.std.specs.Prelude.{ℕ, nat_le, Option, Some, None}
use Rattle.laws.specs.Pick.{pick}
use Rattle.wire_numbers.specs.declared.Cmd.{Cmd}
use Rattle.wire_numbers.specs.declared.Cmd.TheVariants.{Info, Erase, Write, Verify, Reset, Select}
use Rattle.wire_numbers.specs.declared.Status.{Status}
use Rattle.wire_numbers.specs.declared.Status.TheVariants.{
  Request,
  Ok,
  WriteError,
  CrcMismatch,
  AddrOutOfBounds,
  Unsupported,
  PayloadOverflow,
  Incompatible,
}
use Rattle.wire_numbers.specs.declared.RunMode.{RunMode}
use Rattle.wire_numbers.specs.declared.RunMode.TheVariants.{HandOff, Service}

-- 01, Frame bytes: commands 0 to 5
abbrev pub cmd_number : Cmd → ℕ
cmd_number Info = 0
cmd_number Erase = 1
cmd_number Write = 2
cmd_number Verify = 3
cmd_number Reset = 4
cmd_number Select = 5

-- 01, Frame bytes, step 1: a command above 5 is none
abbrev pub cmd_lookup : ℕ → Option ℕ
cmd_lookup b = pick (nat_le b 5) (Some b) None

-- 01, Frame bytes: statuses 0 to 7
abbrev pub status_number : Status → ℕ
status_number Request = 0
status_number Ok = 1
status_number WriteError = 2
status_number CrcMismatch = 3
status_number AddrOutOfBounds = 4
status_number Unsupported = 5
status_number PayloadOverflow = 6
status_number Incompatible = 7

-- 01, Frame bytes, step 1: a status above 7 is none
abbrev pub status_lookup : ℕ → Option ℕ
status_lookup b = pick (nat_le b 7) (Some b) None

-- 01, Commands, Reset: flags bit 0 asks for the bootloader, so it is the mode's number; Service is 1, hand-off 0
abbrev pub mode_number : RunMode → ℕ
mode_number HandOff = 0
mode_number Service = 1
