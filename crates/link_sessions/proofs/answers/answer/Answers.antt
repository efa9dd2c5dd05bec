-- An answer or a refusal is taken with its own bytes, or it isn't, and nothing else happened.
use Rattle.std.proofs.Common.{◌≡◌, ℕ, List, ◌⊎◌, inl, inr, refl, sym, subst}
use Rattle.acct_machine.specs.declared.entry.Entry.{Entry}
use Rattle.acct_machine.specs.State.{Start}
use Rattle.rpc_session.specs.declared.sessions.Act.{Act}
use Rattle.rpc_session.specs.declared.sessions.Act.TheVariants as act
use Rattle.link_sessions.specs.Taking.{AnswersAct, HaltsAct}
use Rattle.link_sessions.specs.declared.ends.Stop.{Stop}
use Rattle.link_sessions.proofs.Results.{on-ok, if-err}
use Rattle.link_sessions.proofs.answers.answer.Goals as goal

own-bytes : (start : Start) (k : ℕ) (finds : List Entry → Type 0) (history : List Entry) (x : Act)
    (given bytes : List ℕ)
    → (x ≡ act.Answered given) ⊎ ((place : ℕ) × (cause : ℕ) × (x ≡ act.Closed place cause given)) → bytes ≡ given
    → AnswersAct start k finds history history x bytes
own-bytes start k finds history x given bytes (inl is) same =
    subst (λ (y : Act). AnswersAct start k finds history history y bytes) (sym is) (refl, same)
own-bytes start k finds history x given bytes (inr (place, cause, is)) same =
    subst (λ (y : Act). AnswersAct start k finds history history y bytes) (sym is) (refl, same)

pub returns-in-Answered-clause-ok : goal.returns-in-Answered-clause-ok
returns-in-Answered-clause-ok g c =
    let a = c.args in
    let m = g.G.Gate in
    let whole = c.as_slice.result.now in
    on-ok c.give.result
    (λ taken. record {
      served = c.requires.serves;
      same = refl;
      bytes = whole;
      answers = own-bytes (m.start a.gate.now) a.conn (m.finds a.gate.now) (m.known a.gate.now) a.act.now
          c.in-Answered.bytes whole c.in-Answered.is c.as_slice.ensures;
      taken = taken;
    }) c.give.ensures.ok

pub returns-in-Answered-clause-err : goal.returns-in-Answered-clause-err
returns-in-Answered-clause-err g c =
    let a = c.args in
    let m = g.G.Gate in
    let t = g.T.Taker in
    let whole = c.as_slice.result.now in
    if-err c.give.result
    (λ why failed. subst (λ (w : Stop). HaltsAct t.takes t.fails m.start m.known m.finds a.conn a.act.now
    a.taker.now a.gate.now c.give.new.taker a.gate.now w) (sym failed.0)
    (record {
      bytes = whole;
      answers = own-bytes (m.start a.gate.now) a.conn (m.finds a.gate.now) (m.known a.gate.now) a.act.now
          c.in-Answered.bytes whole c.in-Answered.is c.as_slice.ensures;
      failed = failed.1;
    })) c.give.ensures.err
