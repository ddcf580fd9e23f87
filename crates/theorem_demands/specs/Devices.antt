-- Devices as functions, for demand 3; and four wrong ones, made from a device d, which it rules out.
use Rattle.std.specs.Prelude.{ℕ, [], ◌∷◌, length, get_or, eqb, if◌then◌else◌}
use Rattle.device_state.specs.declared.Setup.{Setup}
use Rattle.device_state.specs.State.{World}
use Rattle.device_replies.specs.Answers.{mute, reply}
use Rattle.theorem_streams.specs.Rules.{Called}
use Rattle.theorem_streams.specs.Rules as rules

-- what a call leaves, of setup, world, piece and reply room
abbrev pub Device : Type 0
Device = Setup → rules.Device World

-- works until it has replied once, when a status stands in its frame; from then on it takes all that comes and says that it replied
abbrev pub acknowledging : Device → Device
acknowledging d s w l room =
    if eqb (get_or w.state.frame 3 0) 0 then d s w l room else record { told = reply 12 0; taken = length l; left = w; room = room }

-- says of every piece that it took all of it
abbrev pub taking : ℕ → Called World → Called World
taking n c = record { told = c.told; taken = n; left = c.left; room = c.room }

abbrev pub greedy : Device → Device
greedy d s w l room = taking (length l) (d s w l room)

-- says it only of the piece in which a Reset is accepted, and so drops what follows the Reset
abbrev pub swallowing : ℕ → Called World → Called World
swallowing n c = taking (if eqb c.told.number 3 then n else c.taken) c

abbrev pub swallows : Device → Device
swallows d s w l room = swallowing (length l) (d s w l room)

-- says Quiet to every piece that has a byte in it, and takes nothing
abbrev pub stalls : Device → Device
stalls d s w [] room = d s w [] room
stalls d s w (b ∷ l) room = record { told = mute 0; taken = 0; left = w; room = room }
