-- What a call answers (`zax_status`).
use Rattle.std.specs.Prelude.{ℕ}

abbrev pub done : ℕ
done = 0

abbrev pub no_session : ℕ
no_session = 1

abbrev pub no_utf8 : ℕ
no_utf8 = 2

abbrev pub no_memory : ℕ
no_memory = 3

abbrev pub no_room : ℕ
no_room = 4

abbrev pub no_section : ℕ
no_section = 5

abbrev pub nothing_agreed : ℕ
nothing_agreed = 6

abbrev pub wrong_argument : ℕ
wrong_argument = 7

abbrev pub wrong_state : ℕ
wrong_state = 8

abbrev pub unread_line : ℕ
unread_line = 9

abbrev pub no_fit : ℕ
no_fit = 10

abbrev pub not_printable : ℕ
not_printable = 11

abbrev pub no_rows : ℕ
no_rows = 12

abbrev pub no_channels : ℕ
no_channels = 13

abbrev pub no_name : ℕ
no_name = 14

abbrev pub not_own : ℕ
not_own = 15
