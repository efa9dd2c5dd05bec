-- What is printed of the traces of a history: a line each.
use Rattle.std.specs.Prelude.{ℕ, List, [], ◌∷◌, ◌++◌, codes}
use Rattle.std.specs.Fmt.{decimal}
use Rattle.std.specs.List.{flat_map}
use Rattle.dtyp_sid.specs.Text.{hexadecimal}
use Rattle.grant_audit.specs.declared.trace.Trace.{Trace}

-- an access: 0x and eight lower-case hexadecimal digits
abbrev pub access_text : ℕ → List ℕ
access_text access = codes "0x" ++ hexadecimal 8 access

-- the numbers of the call's event, of the connection, of the handle there and of the event that gave the handle; then
-- what was granted there and what the call needed; with a space (32) between two of them and LF (10) at the end
unfoldable pub trace_line : Trace → List ℕ
trace_line t =
    decimal t.entry ++ 32 ∷ decimal t.conn ++ 32 ∷ decimal t.serial ++ 32 ∷ decimal t.opened
    ++ 32 ∷ access_text t.grant ++ 32 ∷ access_text t.needed ++ 10 ∷ []

abbrev pub trace_lines : List Trace → List ℕ
trace_lines traces = flat_map trace_line traces
