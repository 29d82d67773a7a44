-- The names that proofs cite from elsewhere, passed on from one place. Declares nothing.
pub use Rattle.std.proofs.Common.{[], All, ap, append-nil, append_assoc, arith, Bool, cond, drop, Err, false, get_or, inl, inr, leb, length}
pub use Rattle.std.proofs.Common.{length-append, length-take-le, List, lit<, lit≤, map, None, not, Ok, Option, refl, replicate, Result}
pub use Rattle.std.proofs.Common.{rules, Some, subst, suc, sym, take, take-append-drop, true, zero, ℕ, ◌&&◌, ◌*◌, ◌++◌, ◌+◌, ◌-◌, ◌<◌, ◌==◌}
pub use Rattle.std.proofs.Common.{◌^◌, ◌||◌, ◌∙◌, ◌∷◌, ◌≡◌, ◌≢◌, ◌≤◌, ◌⊎◌, length-drop, Any, add-one, bit_and, count_by, ◌↔◌}
pub use Rattle.std.proofs.Math.Seq.{drop-append_seam, take-append_seam}
pub use Rattle.std.proofs.Output.{has_written_of_eq, has_written_append}
pub use Rattle.std.proofs.lemmas.Bool.{and_parts, both_ways, cases_Bool, cases_eq, cases_lt, eq-eqb, le-leb, leb-true, lt-ltb, ltb-true}
pub use Rattle.std.proofs.lemmas.Bool.{ne_eqb, lt-leb, leb-false, not-true, false_from_ne_true, and_from, eqb-true}
pub use Rattle.std.proofs.lemmas.Fmt.{decimal_is_IsNumeral}
pub use Rattle.std.proofs.lemmas.List.{length-replicate, drop-replicate, length-take, take_more, length_push, take_all}
pub use Rattle.std.proofs.lemmas.Option.{none-some, some_pair_parts}
pub use Rattle.std.proofs.lemmas.Slice.Eq.{bytes_eq-Decides}
pub use Rattle.std.proofs.lemmas.Str.{IsCharBoundary-from_take, digit_value_digit, IsUtf8-had, IsUtf8-take}
pub use Rattle.std.proofs.lemmas.Str.Parse.{digit_from_value, numerals_by_value, without_leading_plus_none, tells_digits}
pub use Rattle.std.proofs.lemmas.Str.Parse.{digits_value_short, IsNumeralModel, tells_all_ascii_digits}
pub use Rattle.std.specs.Char.{digit_value, to_ascii_lowercase}
pub use Rattle.std.specs.Fmt.{HasWritten, IsPlainFormatter, is_char_start, digit_glyph}
pub use Rattle.std.specs.List.{AllByRecursion, AllZip, flat_map, slice_split, find}
pub use Rattle.std.specs.Net.Addr.{ipv6_segments, ipv4_octets, segments_of}
pub use Rattle.std.specs.Net.Text.{hex_groups_text, hex}
pub use Rattle.std.specs.Prelude.{codes, decimal, IfSome, is_some, option_map, IsTrue, is_none, if◌then◌else◌, MatchOption, IsErr, IsErrOf}
pub use Rattle.std.specs.Prelude.{slice_range, IfOk, IsSome}
pub use Rattle.std.specs.Result.{IsErrAnd, result_ok}
pub use Rattle.std.specs.Str.{bytes_eq, IsCharBoundary, IsUtf8, str_to_ascii_lowercase, all_ascii_digits, str_eq_ignore_ascii_case}
pub use Rattle.std.specs.Str.Parse.{AllDigits, digits_value, IsNumeral, without_leading_plus, ParsesUnsigned}
