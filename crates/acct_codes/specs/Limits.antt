-- The limits of connections, of lists in calls and of rows: those of the standards, and this project's own.
use Rattle.std.specs.Prelude.{ℕ}

-- MUST_RECV_FRAG_SIZE: the size of fragment that every receiver takes (C706 12.6.3.1)
abbrev pub least_fragment : ℕ
least_fragment = 1_432

-- the largest fragment that is sent or offered
abbrev pub most_fragment : ℕ
most_fragment = 4_280

-- the most bytes of a gathered stub
abbrev pub most_stub : ℕ
most_stub = 1_048_576

-- the most presentation contexts that a connection has accepted
abbrev pub most_contexts : ℕ
most_contexts = 16

-- the most units of the account domain's name, those of a NetBIOS name
abbrev pub most_domain_name : ℕ
most_domain_name = 15

-- the most units of a full name, a comment and OEM information
abbrev pub most_text : ℕ
most_text = 256

-- the most sub-authorities of a domain's SID: an account's has one more
abbrev pub most_domain_subs : ℕ
most_domain_subs = 14

-- what an entry of a page costs of the preferred length, besides the bytes of its name or SID
abbrev pub page_entry_cost : ℕ
page_entry_cost = 12

-- the most that a page costs, whatever length is preferred
abbrev pub most_page : ℕ
most_page = 65_536

-- the most names or RIDs of one SAMR look-up (MS-SAMR 3.1.5.11.2, 3.1.5.11.3)
abbrev pub most_searched : ℕ
most_searched = 1_000

-- the most SIDs whose membership is asked for at once (MS-SAMR 2.2.7.19)
abbrev pub most_member_sids : ℕ
most_member_sids = 1_024

-- the most names of one set of rights (MS-LSAD 2.2.5.1)
abbrev pub most_rights : ℕ
most_rights = 256

-- the most privileges of one set (MS-LSAD 2.2.5.5)
abbrev pub most_privileges : ℕ
most_privileges = 1_000

-- the most names that are translated at once (MS-LSAT 3.1.4.8)
abbrev pub most_translated_names : ℕ
most_translated_names = 1_000

-- the most SIDs that are translated at once (MS-LSAT 2.2.17)
abbrev pub most_translated_sids : ℕ
most_translated_sids = 20_480

-- the most bytes of a security descriptor that is set (MS-SAMR 2.2.3.11, MS-LSAD 2.2.2.5)
abbrev pub most_descriptor : ℕ
most_descriptor = 262_144
