use mathlib.Core.Path.{◌≡◌}
use lib.ListN.{length}
use borrow.Author.Rules.{rules}
use Rattle.wire_frames.proofs.Start.{stores}
use Rattle.wire_sender.proofs.Sealing.{sealed_of}
use native.Mathlib.Omega.{arith}
use Rattle.wire_sender.proofs.seal.Goals as goal

pub returns : goal.returns
returns c =
    let a = c.args in
    let l : length a.f.now ≡ 64 = search rules in
    let e = stores a.f.now (omega arith) in
    rw (c.bytes16-c.ensures, e) (sealed_of a.f.now a.n (omega (arith, c.requires)) c.crc16.result (rw e at c.crc16.ensures))
