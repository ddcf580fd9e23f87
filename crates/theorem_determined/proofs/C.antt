-- The calls for C, and what they are made of.
use Rattle.theorem_determined.specs.Determined.{Determined}
use Rattle.theorem_determined.proofs.Apart.{plain}
use Rattle.c_layout.proofs as c_layout
use Rattle.c_layout.specs.contracts as c_layout_contracts
use Rattle.c_start.proofs as c_start
use Rattle.c_start.specs.contracts as c_start_contracts
use Rattle.c_app.proofs as c_app
use Rattle.c_app.specs.contracts as c_app_contracts
use Rattle.tinyboot_c.proofs as tinyboot_c
use Rattle.tinyboot_c.specs.contracts as tinyboot_c_contracts

pub holds_setup : Determined c_layout_contracts.holds_setup.ended c_layout.holds_setup.Reads.Post
holds_setup κs a o o' p q i = (plain p q i, o.1)

pub holds_state : Determined c_layout_contracts.holds_state.ended c_layout.holds_state.Reads.Post
holds_state κs a o o' p q i = (plain p q i, o.1)

pub flag : Determined c_layout_contracts.flag.ended c_layout.flag.Reads.Post
flag κs a o o' p q i = (plain p q i, o.1)

pub number_bytes : Determined c_layout_contracts.number_bytes.ended c_layout.number_bytes.Reads.Post
number_bytes κs a o o' p q i = (plain p q i, o.1)

pub new_bytes : Determined c_layout_contracts.new_bytes.ended c_layout.new_bytes.Reads.Post
new_bytes κs a o o' p q i = (plain p q i, o.1)

pub lay_answer : Determined c_layout_contracts.lay_answer.ended c_layout.lay_answer.Reads.Post
lay_answer κs a o o' p q i = (plain p.0 q.0 i, (plain p.1 q.1 i, (tt, (tt, tt))))

pub refuse : Determined c_layout_contracts.refuse.ended c_layout.refuse.Reads.Post
refuse κs a o o' p q i = (plain p.0 q.0 i, (plain p.1 q.1 i, (tt, tt)))

pub new_in : Determined c_start_contracts.new_in.ended c_start.new_in.Reads.Post
new_in κs a o o' p q i =
    let e = plain p q in
    ((e i).result, ((e i).state, tt))

pub start_in : Determined c_start_contracts.start_in.ended c_start.start_in.Reads.Post
start_in κs a o o' p q i =
    let e = plain p q in
    ((e i).result, (tt, (tt, ((e i).state, (tt, ((e i).meta, ((e i).answer, tt)))))))

pub early_in : Determined c_start_contracts.early_in.ended c_start.early_in.Reads.Post
early_in κs a o o' p q i = (plain p q i, o.1)

pub holds_app_setup : Determined c_app_contracts.holds_app_setup.ended c_app.holds_app_setup.Reads.Post
holds_app_setup κs a o o' p q i = (plain p q i, o.1)

pub app_new_in : Determined c_app_contracts.app_new_in.ended c_app.app_new_in.Reads.Post
app_new_in κs a o o' p q i =
    let e = plain p q in
    ((e i).result, ((e i).state, tt))

pub app_fed_in : Determined c_app_contracts.app_fed_in.ended c_app.app_fed_in.Reads.Post
app_fed_in κs a o o' p q i =
    let e = plain p q in
    ((e i).result, (tt, ((e i).state, (tt, ((e i).meta, ((e i).reply, ((e i).answer, tt)))))))

pub confirm_in : Determined c_app_contracts.confirm_in.ended c_app.confirm_in.Reads.Post
confirm_in κs a o o' p q i =
    let e = plain p q in
    ((e i).number, ((e i).meta, tt))

pub set_baud_in : Determined c_app_contracts.set_baud_in.ended c_app.set_baud_in.Reads.Post
set_baud_in κs a o o' p q i =
    let e = plain p q in
    ((e i).number, ((e i).meta, (tt, tt)))

pub baud_in : Determined c_app_contracts.baud_in.ended c_app.baud_in.Reads.Post
baud_in κs a o o' p q i = (plain p q i, o.1)

pub position_in : Determined c_app_contracts.position_in.ended c_app.position_in.Reads.Post
position_in κs a o o' p q i = (plain p q i, o.1)

pub tinyboot_state_size : Determined tinyboot_c_contracts.tinyboot_state_size.ended tinyboot_c.tinyboot_state_size.Reads.Post
tinyboot_state_size κs a o o' p q i = (plain p q i, o.1)

pub tinyboot_crc16 : Determined tinyboot_c_contracts.tinyboot_crc16.ended tinyboot_c.tinyboot_crc16.Reads.Post
tinyboot_crc16 κs a o o' p q i = (plain p q i, o.1)

pub tinyboot_key : Determined tinyboot_c_contracts.tinyboot_key.ended tinyboot_c.tinyboot_key.Reads.Post
tinyboot_key κs a o o' p q i = (plain p q i, o.1)

pub tinyboot_new_state : Determined tinyboot_c_contracts.tinyboot_new_state.ended tinyboot_c.tinyboot_new_state.Reads.Post
tinyboot_new_state κs a o o' p q i =
    let e = plain p q in
    ((e i).result, ((e i).state, tt))

pub tinyboot_feed : Determined tinyboot_c_contracts.tinyboot_feed.ended tinyboot_c.tinyboot_feed.Reads.Post
tinyboot_feed κs a o o' p q i =
    let e = plain p q in
    ((e i).result, (tt, ((e i).state, (tt, ((e i).flash, ((e i).meta, ((e i).reply, ((e i).answer, tt))))))))

pub tinyboot_start : Determined tinyboot_c_contracts.tinyboot_start.ended tinyboot_c.tinyboot_start.Reads.Post
tinyboot_start κs a o o' p q i =
    let e = plain p q in
    ((e i).result, (tt, (tt, ((e i).state, (tt, ((e i).meta, ((e i).answer, tt)))))))

pub tinyboot_early : Determined tinyboot_c_contracts.tinyboot_early.ended tinyboot_c.tinyboot_early.Reads.Post
tinyboot_early κs a o o' p q i = (plain p q i, o.1)

pub tinyboot_app_feed : Determined tinyboot_c_contracts.tinyboot_app_feed.ended tinyboot_c.tinyboot_app_feed.Reads.Post
tinyboot_app_feed κs a o o' p q i =
    let e = plain p q in
    ((e i).result, (tt, ((e i).state, (tt, ((e i).meta, ((e i).reply, ((e i).answer, tt)))))))

pub tinyboot_app_new_state : Determined tinyboot_c_contracts.tinyboot_app_new_state.ended tinyboot_c.tinyboot_app_new_state.Reads.Post
tinyboot_app_new_state κs a o o' p q i =
    let e = plain p q in
    ((e i).result, ((e i).state, tt))

pub tinyboot_confirm : Determined tinyboot_c_contracts.tinyboot_confirm.ended tinyboot_c.tinyboot_confirm.Reads.Post
tinyboot_confirm κs a o o' p q i =
    let e = plain p q in
    ((e i).number, ((e i).meta, tt))

pub tinyboot_baud : Determined tinyboot_c_contracts.tinyboot_baud.ended tinyboot_c.tinyboot_baud.Reads.Post
tinyboot_baud κs a o o' p q i = (plain p q i, o.1)

pub tinyboot_set_baud : Determined tinyboot_c_contracts.tinyboot_set_baud.ended tinyboot_c.tinyboot_set_baud.Reads.Post
tinyboot_set_baud κs a o o' p q i =
    let e = plain p q in
    ((e i).number, ((e i).meta, (tt, tt)))

pub tinyboot_position : Determined tinyboot_c_contracts.tinyboot_position.ended tinyboot_c.tinyboot_position.Reads.Post
tinyboot_position κs a o o' p q i = (plain p q i, o.1)

pub tinyboot_mend : Determined tinyboot_c_contracts.tinyboot_mend.ended tinyboot_c.tinyboot_mend.Reads.Post
tinyboot_mend κs a o o' p q i =
    let e = plain p q in
    ((e i).result, (tt, ((e i).meta, ((e i).list, tt))))
