use Rattle.std.proofs.Common.{refl, ◌∙◌}
use Rattle.std.proofs.lemmas.Slice.{put_mid-paste}
use Rattle.c_layout.specs.Layout.{number_bytes}
use Rattle.tinyboot_c.proofs.state.lay_numbers.Goals as goal

pub returns : goal.returns
returns c = put_mid-paste 128 8 _ _ (number_bytes c.args.n) 8 (c.copy_from_slice.ensures.after ∙ c.number_bytes.ensures) refl refl
