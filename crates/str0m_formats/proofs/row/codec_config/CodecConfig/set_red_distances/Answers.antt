use Rattle.str0m_formats.proofs.Common.{List, ℕ, sym, subst}
use Rattle.str0m_formats.proofs.row.RedDistances.{are_distances_kept}
use Rattle.str0m_formats.proofs.row.codec_config.CodecConfig.set_red_distances.Goals as goal
use Rattle.str0m_formats.specs.row.RedDistances.{AreDistancesKept}

pub returns-clause-kept : goal.returns-clause-kept
returns-clause-kept c = let P : List ℕ → Type 0 = λ kept. AreDistancesKept c.args.distances.now kept in
    subst P (sym c.kept-self.ensures) (are_distances_kept c.args.distances.now)
