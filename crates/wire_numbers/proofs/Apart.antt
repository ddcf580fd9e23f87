-- No two names have one number, so that a contract that gives the number allows one result.
use Rattle.std.proofs.Common.{◌≡◌, ℕ, [], ◌∷◌, get_or, refl, ap}
use Rattle.std.specs.Prelude.{Option, Some, None}
use Rattle.std.specs.Option.{option_map}
use Rattle.laws.proofs.Inverse.{apart}
use Rattle.wire_numbers.specs.Names.{cmd_number, status_number, mode_number}
use Rattle.wire_numbers.specs.declared.Cmd.{Cmd}
use Rattle.wire_numbers.specs.declared.Cmd.TheVariants.{Info, Erase, Write, Verify, Reset, Select}
use Rattle.wire_numbers.specs.declared.Status.{Status}
use Rattle.wire_numbers.specs.declared.Status.TheVariants.{
  Request,
  Ok,
  WriteError,
  CrcMismatch,
  AddrOutOfBounds,
  Unsupported,
  PayloadOverflow,
  Incompatible,
}
use Rattle.wire_numbers.specs.declared.RunMode.{RunMode}
use Rattle.wire_numbers.specs.declared.RunMode.TheVariants.{HandOff, Service}

abbrev cmd_from : ℕ → Cmd
cmd_from n = get_or (Info ∷ Erase ∷ Write ∷ Verify ∷ Reset ∷ Select ∷ []) n Info

cmd_back : (c : Cmd) → cmd_from (cmd_number c) ≡ c
cmd_back Info = refl
cmd_back Erase = refl
cmd_back Write = refl
cmd_back Verify = refl
cmd_back Reset = refl
cmd_back Select = refl

pub cmd_apart : (a b : Cmd) → cmd_number a ≡ cmd_number b → a ≡ b
cmd_apart = apart cmd_number cmd_from cmd_back

cmd_found_back : (o : Option Cmd) → option_map cmd_from (option_map cmd_number o) ≡ o
cmd_found_back (Some c) = ap Some (cmd_back c)
cmd_found_back None = refl

pub cmd_found_apart : (a b : Option Cmd) → option_map cmd_number a ≡ option_map cmd_number b → a ≡ b
cmd_found_apart = apart (option_map cmd_number) (option_map cmd_from) cmd_found_back

abbrev status_from : ℕ → Status
status_from n =
    get_or
    (Request
    ∷ Ok
    ∷ WriteError
    ∷ CrcMismatch
    ∷ AddrOutOfBounds
    ∷ Unsupported
    ∷ PayloadOverflow
    ∷ Incompatible
    ∷ [])
    n
    Request

status_back : (s : Status) → status_from (status_number s) ≡ s
status_back Request = refl
status_back Ok = refl
status_back WriteError = refl
status_back CrcMismatch = refl
status_back AddrOutOfBounds = refl
status_back Unsupported = refl
status_back PayloadOverflow = refl
status_back Incompatible = refl

pub status_apart : (a b : Status) → status_number a ≡ status_number b → a ≡ b
status_apart = apart status_number status_from status_back

status_found_back : (o : Option Status) → option_map status_from (option_map status_number o) ≡ o
status_found_back (Some s) = ap Some (status_back s)
status_found_back None = refl

pub status_found_apart : (a b : Option Status) → option_map status_number a ≡ option_map status_number b → a ≡ b
status_found_apart = apart (option_map status_number) (option_map status_from) status_found_back

abbrev pub mode_from : ℕ → RunMode
mode_from n = get_or (HandOff ∷ Service ∷ []) n HandOff

pub mode_back : (m : RunMode) → mode_from (mode_number m) ≡ m
mode_back HandOff = refl
mode_back Service = refl

pub mode_apart : (a b : RunMode) → mode_number a ≡ mode_number b → a ≡ b
mode_apart = apart mode_number mode_from mode_back
