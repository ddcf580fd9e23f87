use Prim.Native.Nat.{◌-◌}
use mathlib.Core.List.{◌++◌}
use lib.ListN.{length}
use Rattle.wire_frames.specs.Reading.{read_frame}
use Rattle.wire_frames.specs.Stored.{begun, out_of}
use Rattle.wire_reader.proofs.Loop.{Inv}
use Rattle.wire_reader.proofs.pass.Given as goal

abbrev pub invariant-loop-i : goal.invariant-loop-i
invariant-loop-i l =
    Inv 52 l.device l.bytes
    (out_of 52 l.initial.f (length l.bytes) (read_frame 52 l.device (begun 52 l.initial.f l.start ++ l.bytes)))
    l.f l.got l.i

abbrev pub decreases-loop-i : goal.decreases-loop-i
decreases-loop-i l = length l.bytes - l.i
