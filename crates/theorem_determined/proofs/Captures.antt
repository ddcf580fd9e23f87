-- The functions on the bench's captures.
use mathlib.Core.Path.{◌≡◌, refl}
use Rattle.desk_capture_parts.specs.Parts.{taken_of, taken_to}
use Rattle.theorem_determined.specs.Determined.{Determined, DeterminedBehind, DeterminedWalked, behind}
use Rattle.theorem_determined.proofs.Apart.{plain}
use Rattle.desk_captures.proofs as desk_captures
use Rattle.desk_captures.specs.contracts as desk_captures_contracts
use Rattle.desk_capture_parts.specs.contracts as desk_capture_parts_contracts
use Rattle.c_desk.proofs as c_desk
use Rattle.c_desk.specs.contracts as c_desk_contracts

pub next_at : Determined desk_captures_contracts.next_at.ended desk_captures.next_at.Reads.Post
next_at κs a o o' p q i = (plain p q i, (tt, (tt, tt)))

pub fault_number : Determined desk_captures_contracts.fault_number.ended desk_captures.fault_number.Reads.Post
fault_number κs a o o' p q i = (plain p q i, (tt, tt))

pub number_of : Determined desk_captures_contracts.number_of.ended desk_captures.number_of.Reads.Post
number_of κs a o o' p q i = (plain p q i, (tt, tt))

pub record_at : Determined desk_captures_contracts.record_at.ended desk_captures.record_at.Reads.Post
record_at κs a o o' p q i = (plain p q i, (tt, (tt, tt)))

pub after : Determined desk_captures_contracts.after.ended desk_captures.after.Reads.Post
after κs a o o' p q i = (plain p q i, (tt, (tt, tt)))

-- what answers a reference says where its bytes stand, too
pub part_at : DeterminedBehind desk_captures_contracts.part_at.ended (λ κs r. behind r) desk_captures.part_at.Reads.Post
part_at κs a o o' p q i = ((plain p.0 q.0 i, plain p.1 q.1 i), o.1)

pub same_bytes : Determined desk_captures_contracts.same_bytes.ended desk_captures.same_bytes.Reads.Post
same_bytes κs a o o' p q i = (plain p q i, (tt, (tt, tt)))

pub compare : Determined desk_captures_contracts.compare.ended desk_captures.compare.Reads.Post
compare κs a o o' p q i = (plain p q i, (tt, (tt, tt)))

pub difference : DeterminedBehind desk_captures_contracts.difference.ended (λ κs r. behind r) desk_captures.difference.Reads.Post
difference κs a o o' p q i = ((plain p.0 q.0 i, plain p.1 q.1 i), o.1)

pub new_capture : DeterminedWalked desk_capture_parts_contracts.new.ended (λ M 𝓤. desk_capture_parts_contracts.new.clauses {M = M} {𝓤 = 𝓤}) (λ κs r. r)
new_capture = record {
  claim = λ κs a r e. (r.src ≡ a.0) × (r.at ≡ 0);
  says = λ M 𝓤 𝓛 mem run κs a g r e. refl;
  only = λ κs a o o' p q i. (record { src = plain p.0 q.0 i; at = plain p.1 q.1 i }, o.1);
}

pub moved_capture : DeterminedWalked desk_capture_parts_contracts.moved.ended (λ M 𝓤. desk_capture_parts_contracts.moved.clauses {M = M} {𝓤 = 𝓤}) (λ κs r. r)
moved_capture = record {
  claim = λ κs a r e. (r.src ≡ a.0.src) × (r.at ≡ a.1.0);
  says = λ M 𝓤 𝓛 mem run κs a g r e. refl;
  only = λ κs a o o' p q i. (record { src = plain p.0 q.0 i; at = plain p.1 q.1 i }, o.1);
}

pub take_part : DeterminedWalked desk_capture_parts_contracts.take.ended (λ M 𝓤. desk_capture_parts_contracts.take.clauses {M = M} {𝓤 = 𝓤}) (λ κs r. taken_to r)
take_part = record {
  claim = λ κs a r e. taken_to r ≡ taken_of a.0.src.ref_ptr a.0.src.now a.0.at;
  says = λ M 𝓤 𝓛 mem run κs a g r e. refl;
  only = λ κs a o o' p q i. (plain p q i, o.1);
}

pub tinyboot_capture_next : Determined c_desk_contracts.captures.tinyboot_capture_next.ended c_desk.captures.tinyboot_capture_next.Reads.Post
tinyboot_capture_next κs a o o' p q i =
    let e = plain p q in
    ((e i).result, (tt, (tt, ((e i).bytes, tt))))

pub tinyboot_capture_compare : Determined c_desk_contracts.captures.tinyboot_capture_compare.ended c_desk.captures.tinyboot_capture_compare.Reads.Post
tinyboot_capture_compare κs a o o' p q i =
    let e = plain p q in
    ((e i).result, (tt, (tt, ((e i).bytes, tt))))
