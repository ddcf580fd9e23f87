-- The loop's invariant: listing what is left from place k on, behind the entries written, gives the whole list; likewise the count.
use Prim.Native.Nat.{◌-◌}
use Rattle.device_mend.proofs.Listing.{Left}
use Rattle.device_mend.proofs.list_changes.Given as goal

abbrev pub invariant-loop-k : goal.invariant-loop-k
invariant-loop-k l = Left l.initial.list l.old l.new l.list l.n l.k
