-- The chart that sets of events hold, 64-bit words with one bit for each event. Assumes nothing.
use Rattle.std.specs.Prelude.{◌≡◌, ℕ, ◌<◌, ◌≤◌, Bool, cond, ◌&&◌, List, nat_lt, slice_index_or}
use Rattle.model.specs.Charts.{EventChart, is_request, is_answer, in_level}
use Rattle.model.specs.Numbers.{first}
use Rattle.model.specs.Readings.{or_bound}
use Rattle.model.specs.Sets.{member}
use Rattle.model.specs.declared.kind.Kind.{Kind}
use Rattle.model.specs.declared.kind.Kind.TheVariants.{High, Low, Request, Answer}
use Rattle.model.specs.declared.set.EventSet.{EventSet}
use Rattle.charts.specs.declared.chart.Sets.{Sets}

-- event e is in set j of the list, which has none beyond its end
abbrev pub owned_by : List EventSet → ℕ → ℕ → Bool
owned_by owned j e = member (slice_index_or owned j (record { word = 0 })).word e

-- the owner of event e: the number of the first of the nine sets that has it, or 0
unfoldable pub owner_in : List EventSet → ℕ → ℕ
owner_in owned e = or_bound 0 (first 9 (λ j. owned_by owned j e))

-- the kind of an event that is an H event, a request, an answer or none of these
abbrev pub kind_by : (high request answer : Bool) → Kind
kind_by high request answer = cond high High (cond request Request (cond answer Answer Low))

-- the kind of event e: High if set 0 has it, Request and Answer by the sets of these, else Low
abbrev pub kind_in : Sets → ℕ → Kind
kind_in s e = kind_by (owned_by s.owned 0 e) (member s.requests.word e) (member s.answers.word e)

-- the chart that the sets hold; beyond the last event the kind is Low, the owner 0 and nothing is uncontrollable
unfoldable pub chart_from : (levels events : ℕ) → Sets → EventChart
chart_from levels events s = record {
  levels = levels;
  events = events;
  kind = λ e. cond (nat_lt e events) (kind_in s e) Low;
  owner = λ e. cond (nat_lt e events) (owner_in s.owned e) 0;
  uncontrollable = λ e. nat_lt e events && member s.uncontrollable.word e;
}

-- set j has the events of the alphabet of level j, set 0 those of owner 0
abbrev pub OwnersAgree : EventChart → List EventSet → Type 0
OwnersAgree c owned = (j e : ℕ) → j ≤ 8 → owned_by owned j e ≡ in_level c j e

-- the word has the requests of the chart, the answers, the uncontrollable events
abbrev pub RequestsAgree : EventChart → ℕ → Type 0
RequestsAgree c word = (e : ℕ) → member word e ≡ (nat_lt e c.events && is_request (c.kind e))

abbrev pub AnswersAgree : EventChart → ℕ → Type 0
AnswersAgree c word = (e : ℕ) → member word e ≡ (nat_lt e c.events && is_answer (c.kind e))

abbrev pub UncontrollableAgree : EventChart → ℕ → Type 0
UncontrollableAgree c word = (e : ℕ) → member word e ≡ c.uncontrollable e

-- the sets say the same of each event, and every owner is a level
pub record Agree (levels events : ℕ) (s : Sets) : Type 0 where
  pub owners : OwnersAgree (chart_from levels events s) s.owned
  pub asking : RequestsAgree (chart_from levels events s) s.requests.word
  pub answering : AnswersAgree (chart_from levels events s) s.answers.word
  pub control : UncontrollableAgree (chart_from levels events s) s.uncontrollable.word
  pub within : (e : ℕ) → e < events → (chart_from levels events s).owner e ≤ levels
