-- Bytes that spell a document, and bytes that spell none.
use Rattle.std.proofs.Common.{◌≡◌, ℕ, List, Some, None, inl, inr}
use Rattle.std.proofs.lemmas.Bool.{cases_Bool}
use Rattle.std.proofs.lemmas.Str.{is_utf8-from_IsUtf8, IsUtf8-from_is_utf8}
use Rattle.std.specs.Str.{IsUtf8, is_utf8}
use Rattle.toml.specs.Data.{Members}
use Rattle.toml.specs.Parse.{parse_document}
use Rattle.acct_config.specs.Document.{document}

pub document-None : (bytes : List ℕ) → (IsUtf8 bytes → parse_document bytes ≡ None) → document bytes ≡ None
document-None bytes refused =
    elim (cases_Bool (is_utf8 bytes)) [
      | inl is_text ↦ rw is_text (refused (IsUtf8-from_is_utf8 bytes is_text))
      | inr other ↦ rw other
    ]

pub document-Some : (bytes : List ℕ) (found : Members) → IsUtf8 bytes → parse_document bytes ≡ Some found →
    document bytes ≡ Some found
document-Some bytes found text parsed = rw (is_utf8-from_IsUtf8 bytes text) parsed
