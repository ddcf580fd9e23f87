-- The command Select (01, Commands), of an id, a list of bytes, and the 64 bytes of a frame.
use Rattle.std.specs.Prelude.{ℕ, zero, suc, ◌+◌, ◌*◌, ◌/◌, ◌%◌, ◌^◌, Bool, true, false}
use Rattle.std.specs.Prelude.{◌&&◌, List, ◌++◌, eqb, leb, length, get_or, take, drop, Option, Some, None}
use Rattle.laws.specs.Pick.{pick}
use Rattle.wire_numbers.specs.Crc.{crc_of}

-- seed, bit count and prefix, in the data area as it stands, also past a short frame's data; of the prefix as much as the longest id has bytes (01,
-- Commands, Select; Frame bytes, the data area)
abbrev pub seed_of : List ℕ → ℕ
seed_of f = get_or f 10 0

abbrev pub bit_count_of : List ℕ → ℕ
bit_count_of f = get_or f 11 0

abbrev pub prefix_of : List ℕ → List ℕ
prefix_of f = take 16 (drop 12 f)

-- the bits of an id, and of the prefix, are counted from the low end of the first byte (01, Commands, Select)
abbrev pub bit_at : ℕ → List ℕ → ℕ
bit_at k l = get_or l (k / 8) 0 / 2 ^ (k % 8) % 2

-- every bit below the count is the same in both
unfoldable pub agree : ℕ → List ℕ → List ℕ → Bool
agree zero id prefix = true
agree (suc k) id prefix = eqb (bit_at k id) (bit_at k prefix) && agree k id prefix

-- a match: no more bits than the id has, and all of them agree (01, Commands, Select). proofs/PrefixBits.antt says it of every bit, without computing:
-- matches_every and every_matches
unfoldable pub matches : ℕ → List ℕ → List ℕ → Bool
matches count id prefix = leb count (8 * length id) && agree count id prefix

-- the wait before the reply, in byte-times: four bits of the id's CRC, at a place that the seed picks (01, Commands, Select)
unfoldable pub slot_of : ℕ → List ℕ → ℕ
slot_of seed id = crc_of id / 2 ^ (seed % 16) % 16

-- the id laid over the start of the data area (01, Commands, Select)
unfoldable pub copied : List ℕ → List ℕ → List ℕ
copied id f = take 10 f ++ id ++ drop (10 + length id) f

-- what a Select leaves: whether it matched, which selects the device and makes it reply, or deselects it in silence; the wait before the reply, 0 where
-- there is none; and the frame's bytes
pub record Choice : Type 0 where
  pub match : Bool
  pub wait : ℕ
  pub bytes : List ℕ

-- all of it, of the id and the frame as it was
unfoldable pub select_of : List ℕ → List ℕ → Choice
select_of id f =
    record {
      match = matches (bit_count_of f) id (prefix_of f);
      wait = pick (matches (bit_count_of f) id (prefix_of f)) (slot_of (seed_of f) id) 0;
      bytes = copied id f;
    }

-- each case of the code's answer, the wait of a match, with the frame as it left it
abbrev pub choice_of : Option ℕ → List ℕ → Choice
choice_of (Some w) f = record { match = true; wait = w; bytes = f }
choice_of None f = record { match = false; wait = 0; bytes = f }
