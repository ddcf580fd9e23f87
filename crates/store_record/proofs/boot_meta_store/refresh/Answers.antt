-- What is kept is read, state, trials, checksum and size are laid over it, and the rewrite goes its four steps.
use mathlib.Core.Path.{◌≡◌, refl, ◌∙◌}
use mathlib.Core.List.{List, [], ◌∷◌}
use Prim.Native.Nat.{ℕ}
use lib.ListN.{get_or}
use lib.Seq.{sets}
use Rattle.laws.specs.Low.{low_bytes}
use Rattle.store_record.specs.Cuts.{blank, cut_after}
use Rattle.store_record.specs.Record.{fresh_of, refreshed}
use Rattle.store_record.proofs.Cuts.{kept_cut}
use Rattle.store_record.proofs.boot_meta_store.refresh.Goals as goal

-- n is the new record, of what was read, k, and what is laid over it
built : (m k n b c z : List ℕ) (s checksum state size : ℕ) → s ≡ state → c ≡ low_bytes 2 checksum → z ≡ low_bytes 4 size → k ≡ sets blank 0 m
    → n ≡ sets k 0 (s ∷ 0xFF ∷ get_or c 0 0 ∷ get_or c 1 0 ∷ get_or z 0 0 ∷ get_or z 1 0 ∷ get_or z 2 0 ∷ get_or z 3 0 ∷ []) → b ≡ cut_after 4 n m
    → b ≡ refreshed m checksum state size
built m k n b c z s checksum state size es ec ez ek en eb =
    kept_cut (λ (r : List ℕ). fresh_of r checksum state size) m k b ek (eb ∙ rw (en, es, ec, ez) refl)

pub returns : goal.returns
returns c =
    built c.args.meta.now _ _ _ _ _ _ _ _ _ c.to_u8.ensures
    c.bytes16-c.ensures c.bytes32-z.ensures c.kept-new.ensures c.lay.ensures
    c.rewrite_steps.ensures
