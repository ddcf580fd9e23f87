use lib.ListN.{get_or}
use Rattle.device_handler.proofs.Obeying.{found, unfound}
use Rattle.device_handler.specs.Handling.{handled_of}
use Rattle.wire_numbers.specs.Names.{cmd_number}
use Rattle.device_handler.proofs.handle.Goals as goal

pub returns-in-Some : goal.returns-in-Some
unfolding handled_of
returns-in-Some c =
    rw (found (cmd_number c.in-Some.cmd) (get_or c.args.state.now.frame 2 0) (rw c.in-Some.is at c.from_u8.ensures)) at
    c.carry.ensures

pub returns-in-None : goal.returns-in-None
unfolding handled_of
returns-in-None c =
    let a = c.args in
    rw c.bare.ensures
    (unfound (get_or a.state.now.frame 2 0) 52 64 a.setup (record { state = a.state.now; flash = a.flash.now; meta = a.meta.now })
    (rw c.in-None.is at c.from_u8.ensures))
