-- The pairs of sound rows break no rule, and tables of rows that fit, whose pairs break none, are sound.
use Rattle.std.proofs.Common.{◌∙◌}
use Rattle.acct_rows.proofs.Fitting.{all_fit}
use Rattle.acct_rows.proofs.Members.{ascending-kept}
use Rattle.acct_rows.proofs.RowsAt.{row_fits}
use Rattle.acct_rows.proofs.Unbroken.{sound_is_unbroken, unbroken_is_sound}
use Rattle.acct_rows.proofs.pairs.laws.sound_is_unbroken.Goals as goal

pub returns : goal.returns
returns c =
    let back = c.written_bytes_are_read.ensures in
    let sizes = c.written_bytes_have_lengths.ensures in
    let only = c.read_bytes_are_written.ensures in
    let sids = c.equal_sids_are_one.ensures in
    let names = c.same_is_equivalence.ensures in
    record {
      sound_breaks_none = λ lists pairs sound are.
          sound_is_unbroken back sizes only sids names lists pairs (row_fits lists (all_fit lists sound)) are.held sound
          (ascending-kept pairs ∙ are.ascending);
      unbroken_is_sound = λ lists pairs tables fit are unbroken.
          unbroken_is_sound back sizes only sids names lists pairs (row_fits lists fit) are.held unbroken
          fit.next_out tables.domains tables.accounts tables.members tables.aliases tables.lsa tables.descriptors tables.outs;
    }
