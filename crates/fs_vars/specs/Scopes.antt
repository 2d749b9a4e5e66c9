-- The named values that a text can use, in the order in which a name is looked for.
use Rattle.std.specs.Prelude.{[], ◌∷◌, ◌++◌, codes}
use Rattle.fs_vars.specs.declared.profile.Profile.{Profile}
use Rattle.fs_vars.specs.declared.scope.Scope.{Scope}
use Rattle.fs_vars.specs.Pairs.{Pairs}

-- a profile whose fields are all empty
abbrev pub empty_profile : Profile
empty_profile = record {
  destination_number = [];
  caller_id_name = [];
  caller_id_number = [];
  ani = [];
  rdnis = [];
  context = [];
  dialplan = [];
  source = [];
  uuid = [];
  chan_name = [];
  network_addr = [];
  username = [];
}

-- the fields of a profile under their names
unfoldable pub fields_of : Profile → Pairs
fields_of p =
    (codes "destination_number", p.destination_number)
    ∷ (codes "caller_id_name", p.caller_id_name)
    ∷ (codes "caller_id_number", p.caller_id_number)
    ∷ (codes "ani", p.ani)
    ∷ (codes "rdnis", p.rdnis)
    ∷ (codes "context", p.context)
    ∷ (codes "dialplan", p.dialplan)
    ∷ (codes "source", p.source)
    ∷ (codes "uuid", p.uuid)
    ∷ (codes "chan_name", p.chan_name)
    ∷ (codes "network_addr", p.network_addr)
    ∷ (codes "username", p.username)
    ∷ []

-- the variables, then the fields of the profile, then the globals
unfoldable pub known_in : Scope → Pairs
known_in scope = scope.vars.now.pairs ++ fields_of scope.profile.now ++ scope.globals.now.pairs
