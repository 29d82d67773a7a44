use Rattle.str0m_formats.proofs.Common.{◌≡◌, length}
use Rattle.str0m_formats.proofs.row.kind_rows.KindRowsIterator.next.Given as goal
use Rattle.str0m_formats.specs.row.KindRows.{rows_left}

-- what is asked of a row stays, and the rows that are still to come are those of the start
abbrev pub invariant-loop-first : goal.invariant-loop-first
invariant-loop-first l = record {
  all : l.self.all ≡ l.initial.self.all;
  kind : l.self.kind ≡ l.initial.self.kind;
  narrowed : l.self.narrowed ≡ l.initial.self.narrowed;
  left : rows_left l.self ≡ rows_left l.initial.self;
}

abbrev pub decreases-loop-first : goal.decreases-loop-first
decreases-loop-first l = length l.self.rest.now
