-- With each first word that is a command's, the form is that of this command over the words after it.
use Rattle.client_commands.specs.Words.{verb_form}
use Rattle.client_commands.proofs.words.verb.Goals as goal

pub returns-in-domains : goal.returns-in-domains
unfolding verb_form
returns-in-domains c = rw c.in-domains.is c.domains.ensures

pub returns-in-users : goal.returns-in-users
unfolding verb_form
returns-in-users c = rw c.in-users.is c.users.ensures

pub returns-in-text : goal.returns-in-text
unfolding verb_form
returns-in-text c = rw c.in-text.is c.create_user.ensures

pub returns-in-text-2 : goal.returns-in-text-2
unfolding verb_form
returns-in-text-2 c = rw c.in-text-2.is c.delete_user.ensures

pub returns-in-members : goal.returns-in-members
unfolding verb_form
returns-in-members c = rw c.in-members.is c.members.ensures

pub returns-in-text-3 : goal.returns-in-text-3
unfolding verb_form
returns-in-text-3 c = rw c.in-text-3.is c.add_member.ensures

pub returns-in-names : goal.returns-in-names
unfolding verb_form
returns-in-names c = rw c.in-names.is c.names.ensures

pub returns-in-sids : goal.returns-in-sids
unfolding verb_form
returns-in-sids c = rw c.in-sids.is c.sids.ensures

pub returns-in-rights : goal.returns-in-rights
unfolding verb_form
returns-in-rights c = rw c.in-rights.is c.rights.ensures

pub returns-in-grant : goal.returns-in-grant
unfolding verb_form
returns-in-grant c = rw c.in-grant.is c.grant.ensures
