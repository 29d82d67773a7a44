use Rattle.std.proofs.lemmas.Grind.{common_steps}
use Rattle.str0m_values.proofs.Common.{arith, IsUtf8-had}
use Rattle.str0m_values.proofs.short_text.ShortText.as_str.Goals as goal

pub from_utf8_unchecked-requires : goal.from_utf8_unchecked-requires
from_utf8_unchecked-requires c = let utf8 = IsUtf8-had _ c.self.invariant.3 in grind (arith, common_steps, utf8)
