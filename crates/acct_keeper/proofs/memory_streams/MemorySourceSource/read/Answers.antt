-- A read that doesn't fail takes a prefix of the bytes left; 0 bytes into a buffer with room mean that none were left.
use Rattle.std.proofs.Common.{◌≡◌, List, ℕ, drop, sym, ap, ◌∙◌, ◌++◌, ◌+◌}
use Rattle.acct_keeper.specs.Memory.{SourceInMemory}
use Rattle.acct_keeper.proofs.Bytes.{read-splits, none-behind}
use Rattle.acct_keeper.proofs.memory_streams.MemorySourceSource.read.Goals as goal

pub returns-clause-bytes : goal.returns-clause-bytes
returns-clause-bytes c =
    let s = c.self.inside in
    let rest : c.rest_of.result.now ≡ drop s.place s.bytes.items = c.rest_of.ensures.value
    ∙ ap (λ (bytes : List ℕ). drop s.place bytes) c.deref-2.ensures.value in
    let n = c.copy_front-count.result in (
      sym (ap (λ (seen : SourceInMemory). seen.left) c.self.view_is)
          ∙ read-splits s.place n s.bytes.items c.rest_of.result.now rest
          ∙ ap (λ (front : List ℕ). front ++ drop (s.place + n) s.bytes.items) (sym c.copy_front-count.ensures.copied),
      λ at_zero some. none-behind s.place n s.bytes.items c.rest_of.result.now rest at_zero
          (c.copy_front-count.ensures.all at_zero some),
    )
