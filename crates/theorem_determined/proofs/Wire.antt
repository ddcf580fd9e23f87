-- The wire's functions.
use Rattle.theorem_determined.specs.Determined.{Determined}
use Rattle.theorem_determined.proofs.Apart.{plain, stop_apart}
use Rattle.wire_numbers.proofs.Apart.{mode_apart, cmd_found_apart, status_found_apart}
use Rattle.wire_rates.proofs.Apart.{rate_found_apart}
use Rattle.wire_frames.proofs.Apart.{end_apart}
use Rattle.wire_numbers.proofs as wire_numbers
use Rattle.wire_numbers.specs.contracts as wire_numbers_contracts
use Rattle.wire_rates.proofs as wire_rates
use Rattle.wire_rates.specs.contracts as wire_rates_contracts
use Rattle.wire_info.proofs as wire_info
use Rattle.wire_info.specs.contracts as wire_info_contracts
use Rattle.wire_frames.proofs as wire_frames
use Rattle.wire_frames.specs.contracts as wire_frames_contracts
use Rattle.wire_reader.proofs as wire_reader
use Rattle.wire_reader.specs.contracts as wire_reader_contracts
use Rattle.wire_sender.proofs as wire_sender
use Rattle.wire_sender.specs.contracts as wire_sender_contracts

pub flush : Determined wire_numbers_contracts.WriteFlags.flush.ended wire_numbers.WriteFlags.flush.Reads.Post
flush κs a o o' p q i = (plain p q i, o.1)

pub bootloader : Determined wire_numbers_contracts.ResetFlags.bootloader.ended wire_numbers.ResetFlags.bootloader.Reads.Post
bootloader κs a o o' p q i = (plain p q i, o.1)

pub baud : Determined wire_numbers_contracts.ResetFlags.baud.ended wire_numbers.ResetFlags.baud.Reads.Post
baud κs a o o' p q i = (plain p q i, o.1)

pub position : Determined wire_numbers_contracts.ResetFlags.position.ended wire_numbers.ResetFlags.position.Reads.Post
position κs a o o' p q i = (plain p q i, o.1)

pub run_mode : Determined wire_numbers_contracts.ResetFlags.run_mode.ended wire_numbers.ResetFlags.run_mode.Reads.Post
run_mode κs a o o' p q i = (mode_apart o.0 o'.0 (plain p q) i, o.1)

pub pack_version : Determined wire_numbers_contracts.pack_version.ended wire_numbers.pack_version.Reads.Post
pack_version κs a o o' p q i = (plain p q i, o.1)

pub unpack_version : Determined wire_numbers_contracts.unpack_version.ended wire_numbers.unpack_version.Reads.Post
unpack_version κs a o o' p q i = (plain p q i, o.1)

pub cmd_to_u8 : Determined wire_numbers_contracts.Cmd.to_u8.ended wire_numbers.Cmd.to_u8.Reads.Post
cmd_to_u8 κs a o o' p q i = (plain p q i, o.1)

pub cmd_from_u8 : Determined wire_numbers_contracts.Cmd.from_u8.ended wire_numbers.Cmd.from_u8.Reads.Post
cmd_from_u8 κs a o o' p q i = (cmd_found_apart o.0 o'.0 (plain p q) i, o.1)

pub status_to_u8 : Determined wire_numbers_contracts.Status.to_u8.ended wire_numbers.Status.to_u8.Reads.Post
status_to_u8 κs a o o' p q i = (plain p q i, o.1)

pub status_from_u8 : Determined wire_numbers_contracts.Status.from_u8.ended wire_numbers.Status.from_u8.Reads.Post
status_from_u8 κs a o o' p q i = (status_found_apart o.0 o'.0 (plain p q) i, o.1)

pub compat_key : Determined wire_numbers_contracts.compat_key.ended wire_numbers.compat_key.Reads.Post
compat_key κs a o o' p q i = (plain p q i, o.1)

pub crc_start : Determined wire_numbers_contracts.crc.crc_start.ended wire_numbers.crc.crc_start.Reads.Post
crc_start κs a o o' p q i = (plain p q i, o.1)

pub crc16 : Determined wire_numbers_contracts.crc.crc16.ended wire_numbers.crc.crc16.Reads.Post
crc16 κs a o o' p q i = (plain p q i, o.1)

pub crc16_by_byte : Determined wire_numbers_contracts.crc.crc16_by_byte.ended wire_numbers.crc.crc16_by_byte.Reads.Post
crc16_by_byte κs a o o' p q i = (plain p q i, o.1)

pub read16 : Determined wire_numbers_contracts.le.read16.ended wire_numbers.le.read16.Reads.Post
read16 κs a o o' p q i = (plain p q i, o.1)

pub read24 : Determined wire_numbers_contracts.le.read24.ended wire_numbers.le.read24.Reads.Post
read24 κs a o o' p q i = (plain p q i, o.1)

pub read32 : Determined wire_numbers_contracts.le.read32.ended wire_numbers.le.read32.Reads.Post
read32 κs a o o' p q i = (plain p q i, o.1)

pub bytes16 : Determined wire_numbers_contracts.le.bytes16.ended wire_numbers.le.bytes16.Reads.Post
bytes16 κs a o o' p q i = (plain p q i, o.1)

pub bytes24 : Determined wire_numbers_contracts.le.bytes24.ended wire_numbers.le.bytes24.Reads.Post
bytes24 κs a o o' p q i = (plain p q i, o.1)

pub bytes32 : Determined wire_numbers_contracts.le.bytes32.ended wire_numbers.le.bytes32.Reads.Post
bytes32 κs a o o' p q i = (plain p q i, o.1)

pub hz : Determined wire_rates_contracts.BaudRate.hz.ended wire_rates.BaudRate.hz.Reads.Post
hz κs a o o' p q i = (plain p q i, o.1)

pub rate_to_u8 : Determined wire_rates_contracts.BaudRate.to_u8.ended wire_rates.BaudRate.to_u8.Reads.Post
rate_to_u8 κs a o o' p q i = (plain p q i, o.1)

pub rate_from_u8 : Determined wire_rates_contracts.BaudRate.from_u8.ended wire_rates.BaudRate.from_u8.Reads.Post
rate_from_u8 κs a o o' p q i = (rate_found_apart o.0 o'.0 (plain p q) i, o.1)

pub rate_from_hz : Determined wire_rates_contracts.BaudRate.from_hz.ended wire_rates.BaudRate.from_hz.Reads.Post
rate_from_hz κs a o o' p q i = (rate_found_apart o.0 o'.0 (plain p q) i, o.1)

pub wire_len : Determined wire_info_contracts.InfoData.wire_len.ended wire_info.InfoData.wire_len.Reads.Post
wire_len κs a o o' p q i = (plain p q i, o.1)

pub to_bytes : Determined wire_info_contracts.InfoData.to_bytes.ended wire_info.InfoData.to_bytes.Reads.Post
to_bytes κs a o o' p q i = (plain p q i, o.1)

pub from_bytes : Determined wire_info_contracts.InfoData.from_bytes.ended wire_info.InfoData.from_bytes.Reads.Post
from_bytes κs a o o' p q i = (plain p q i, o.1)

pub addr : Determined wire_frames_contracts.fields.addr.ended wire_frames.fields.addr.Reads.Post
addr κs a o o' p q i = (plain p q i, o.1)

pub flags : Determined wire_frames_contracts.fields.flags.ended wire_frames.fields.flags.Reads.Post
flags κs a o o' p q i = (plain p q i, o.1)

pub new : Determined wire_frames_contracts.frame.Frame.new.ended wire_frames.frame.Frame.new.Reads.Post
new κs a o o' p q i = (plain p q i, o.1)

pub heard : Determined wire_frames_contracts.frame.heard.ended wire_frames.frame.heard.Reads.Post
heard κs a o o' p q i = (plain p q i, o.1)

pub verdict : Determined wire_frames_contracts.frame.verdict.ended wire_frames.frame.verdict.Reads.Post
verdict κs a o o' p q i = (end_apart o.0 o'.0 (plain p q) i, o.1)

pub is_beginning : Determined wire_frames_contracts.frame.is_beginning.ended wire_frames.frame.is_beginning.Reads.Post
is_beginning κs a o o' p q i = (plain p q i, o.1)

pub begins : Determined wire_frames_contracts.frame.begins.ended wire_frames.frame.begins.Reads.Post
begins κs a o o' p q i = (plain p q i, o.1)

pub hunted : Determined wire_frames_contracts.sync.hunted.ended wire_frames.sync.hunted.Reads.Post
hunted κs a o o' p q i = (plain p q i, o.1)

pub read_part : Determined wire_reader_contracts.read_part.ended wire_reader.read_part.Reads.Post
read_part κs a o o' p q i =
    let e = plain p q in
    (record { got = (e i).got; taken = (e i).taken; stop = stop_apart o.0.stop o'.0.stop (λ j. (e j).said) i }, ((e i).bytes, (tt, (tt, (tt, tt)))))

pub read_in : Determined wire_reader_contracts.read_in.ended wire_reader.read_in.Reads.Post
read_in κs a o o' p q i =
    let e = plain p q in
    (record { got = (e i).got; taken = (e i).taken; stop = stop_apart o.0.stop o'.0.stop (λ j. (e j).said) i }, ((e i).bytes, (tt, (tt, (tt, tt)))))

pub read : Determined wire_reader_contracts.read.ended wire_reader.read.Reads.Post
read κs a o o' p q i =
    let e = plain p q in (
      record { frame = record { bytes = (e i).bytes; got = (e i).got }; taken = (e i).taken; stop = stop_apart o.0.stop o'.0.stop (λ j. (e j).said) i },
      (tt, (tt, tt)),
    )

pub read_request : Determined wire_reader_contracts.read_request.ended wire_reader.read_request.Reads.Post
read_request κs a o o' p q i =
    let e = plain p q in (
      record { frame = record { bytes = (e i).bytes; got = (e i).got }; taken = (e i).taken; stop = stop_apart o.0.stop o'.0.stop (λ j. (e j).said) i },
      (tt, (tt, tt)),
    )

pub send : Determined wire_sender_contracts.send.ended wire_sender.send.Reads.Post
send κs a o o' p q i =
    let e = plain p q in
    ((e i).count, ((e i).bytes, ((e i).room, tt)))
