-- Calls of each of the two interfaces (MS-SAMR 3.1.5, MS-LSAD 3.1.4, MS-LSAT 3.1.4).
use Rattle.std.specs.Prelude.{ℕ}
use Rattle.acct_calls.specs.declared.calls.Args.{Args}
use Rattle.acct_calls.specs.declared.calls.Call.{Call}
use Rattle.acct_calls.specs.declared.calls.Face.TheVariants.{Samr, Lsa}
use Rattle.acct_calls.specs.declared.handle.Handle.{Handle}

-- the handle of a call that takes none, and of outputs that open nothing
abbrev pub zero_handle : Handle
zero_handle = record { number = 0 }

abbrev pub samr_call : ℕ → Handle → Args → Call
samr_call opnum handle a = record { face = Samr; opnum = opnum; handle = handle; args = a }

abbrev pub lsa_call : ℕ → Handle → Args → Call
lsa_call opnum handle a = record { face = Lsa; opnum = opnum; handle = handle; args = a }
