-- The elements that `elements` gives of an array are those of its view.
use Rattle.std.proofs.Common.{sym}
use Rattle.acct_config.proofs.Views.{elements-Array}
use Rattle.acct_config.proofs.document.elements.Goals as goal

pub returns-in-Array : goal.returns-in-Array
returns-in-Array c = rw (c.deref.ensures.value, c.in-Array.is) (sym (elements-Array c.in-Array.values))
