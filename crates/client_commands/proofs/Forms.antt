-- The forms of two names are made of the pair of them.
use Rattle.std.proofs.Common.{◌≡◌, ℕ, List, [], ◌∷◌, Option, Some, None, option_map, refl}
use Rattle.client_commands.specs.declared.command.Command.{Command}
use Rattle.client_commands.specs.declared.command.Command.TheVariants.{InDomain}
use Rattle.client_commands.specs.declared.command.Task.{Task}
use Rattle.client_commands.specs.declared.command.Task.TheVariants.{CreateUser, Named}
use Rattle.client_commands.specs.declared.command.NamedTask.TheVariants.{DeleteUser, Members, AddMember}
use Rattle.client_commands.specs.Words.{name_of, both_of, two_names, in_domain, adding, create_form, delete_form}
use Rattle.client_commands.specs.Words.{members_form}

-- the command that a pair is, if there is one
abbrev pub with_pair : (List ℕ → Task) → Option (List ℕ × List ℕ) → Option Command
with_pair task None = None
with_pair task (Some names) = Some (InDomain names.0 (task names.1))

of_pair : (task : List ℕ → Task) (domain name : Option (List ℕ))
    → in_domain domain (option_map task name) ≡ with_pair task (both_of domain name)
of_pair task None name = refl
of_pair task (Some domain) None = refl
of_pair task (Some domain) (Some name) = refl

pub create_form_is : (words : List (List ℕ)) → create_form words ≡ with_pair CreateUser (two_names words)
create_form_is [] = refl
create_form_is (domain ∷ []) = refl
create_form_is (domain ∷ name ∷ []) = of_pair CreateUser (name_of domain) (name_of name)
create_form_is (domain ∷ name ∷ word ∷ words) = refl

pub delete_form_is : (words : List (List ℕ))
    → delete_form words ≡ with_pair (λ name. Named (DeleteUser name)) (two_names words)
delete_form_is [] = refl
delete_form_is (domain ∷ []) = refl
delete_form_is (domain ∷ name ∷ []) = of_pair (λ n. Named (DeleteUser n)) (name_of domain) (name_of name)
delete_form_is (domain ∷ name ∷ word ∷ words) = refl

pub members_form_is : (words : List (List ℕ))
    → members_form words ≡ with_pair (λ name. Named (Members name)) (two_names words)
members_form_is [] = refl
members_form_is (domain ∷ []) = refl
members_form_is (domain ∷ name ∷ []) = of_pair (λ n. Named (Members n)) (name_of domain) (name_of name)
members_form_is (domain ∷ name ∷ word ∷ words) = refl

-- the command that adds the second of a pair to the first, if there is a pair
abbrev pub adding_pair : List ℕ → Option (List ℕ × List ℕ) → Option Command
adding_pair domain None = None
adding_pair domain (Some names) = Some (InDomain domain (Named (AddMember names.0 names.1)))

pub adding_is : (domain : List ℕ) (group user : Option (List ℕ))
    → in_domain (Some domain) (adding group user) ≡ adding_pair domain (both_of group user)
adding_is domain None user = refl
adding_is domain (Some group) None = refl
adding_is domain (Some group) (Some user) = refl
