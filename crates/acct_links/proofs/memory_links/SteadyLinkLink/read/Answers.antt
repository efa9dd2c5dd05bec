-- What `read` copies is the prefix of what is left to read: it adds to what was received, and the rest is left.
use Rattle.std.proofs.Common.{◌≡◌, List, ℕ, take, drop, sym, ap, ◌∙◌, ◌++◌, ◌+◌, rules, refl, arith}
use Rattle.acct_links.specs.Memory.{SteadyLinkInMemory}
use Rattle.acct_links.proofs.Sending.{read-splits, none-behind, take-more}
use Rattle.acct_links.proofs.memory_links.SteadyLinkLink.read.Goals as goal

pub returns-clause-reads : goal.returns-clause-reads
returns-clause-reads c =
    let s = c.self.inside in
    let bytes = s.bytes.items in
    let n = c.copy_front-count.result in
    let rest : c.rest_of.result.now ≡ drop s.place bytes = c.rest_of.ensures.value
    ∙ ap (λ (bs : List ℕ). drop s.place bs) c.deref.ensures.value in
    let piece : take n c.copy_front-count.new.into ≡ take n (drop s.place bytes) =
    c.copy_front-count.ensures.copied ∙ ap (λ (bs : List ℕ). take n bs) rest in
    record {
      received = take-more s.place n bytes
          ∙ ap (λ (front : List ℕ). take s.place bytes ++ front) (sym piece)
          ∙ ap (λ (front : List ℕ). front ++ take n c.copy_front-count.new.into)
          (ap (λ (seen : SteadyLinkInMemory). seen.received) c.self.view_is);
      left = (
        sym (ap (λ (seen : SteadyLinkInMemory). seen.left) c.self.view_is)
            ∙ read-splits s.place n bytes c.rest_of.result.now rest
            ∙ ap (λ (front : List ℕ). front ++ drop (s.place + n) bytes) (sym c.copy_front-count.ensures.copied),
        λ at_zero some. none-behind s.place n bytes c.rest_of.result.now rest at_zero
            (c.copy_front-count.ensures.all at_zero some),
      );
      ended = search rules;
      cause = record { later = omega arith; failed = tt };
      count = refl;
      sent = refl;
      write_faults = refl;
    }
