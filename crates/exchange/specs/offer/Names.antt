-- The names that sections of a session have had.
use Rattle.exchange.specs.Prelude.{MediaLine, is_group_listed}
use Rattle.exchange.specs.section.Stopped.{name_of}
use Rattle.std.specs.Prelude.{ℕ, cond, List, ◌++◌, Option, None, filter_map}

-- the name of a section, where it isn't among the others
abbrev pub new_name : List (List ℕ) → MediaLine → Option (List ℕ)
new_name names m = cond (is_group_listed names (name_of m)) None (name_of m)

-- the names with those of sections that are new, after them and in order
abbrev pub grown_names : List (List ℕ) → List MediaLine → List (List ℕ)
grown_names names sections = names ++ filter_map (new_name names) sections
