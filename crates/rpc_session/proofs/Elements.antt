-- One element after the other, as a loop takes them.
use Rattle.std.proofs.Common.{◌≡◌, ℕ, suc, ◌+◌, ◌<◌, List, ◌∷◌, length, get_or, drop, sym, ap, ◌∙◌, add-one, drop-cons}
use Rattle.rpc_pdu.specs.declared.pdus.Element.{Element}
use Rattle.rpc_session.specs.declared.contexts.Context.{Context}
use Rattle.rpc_session.specs.Answers.{with_element, with_elements}

abbrev pub IsAdding : List Context → List Context → List Element → ℕ → Type 0
IsAdding before now elements i = with_elements now (drop i elements) ≡ with_elements before elements

pub added : (before now after : List Context) (elements : List Element) (i : ℕ) (e : Element) → i < length elements
    → e ≡ get_or elements i e → after ≡ with_element now e → IsAdding before now elements i
    → IsAdding before after elements (i + 1)
added before now after elements i e lt is put h =
    let tail : drop i elements ≡ e ∷ drop (i + 1) elements =
    rw add-one (drop-cons elements i e lt ∙ ap (λ (x : Element). x ∷ drop (suc i) elements) (sym is)) in
    let one : with_elements now (drop i elements) ≡ with_elements (with_element now e) (drop (i + 1) elements) =
    ap (λ (es : List Element). with_elements now es) tail in
    ap (λ (cs : List Context). with_elements cs (drop (i + 1) elements)) put ∙ sym one ∙ h
