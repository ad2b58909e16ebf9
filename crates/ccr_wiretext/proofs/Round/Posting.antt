-- The canonical lines of the posters.
use Rattle.std.proofs.Common.{ℕ, ◌+◌, ◌<◌, ◌≤◌, List, [], ◌∷◌, ◌++◌, length, map, refl, ap, arith, append-nil}
use Rattle.std.specs.Prelude.{codes, flat_map}
use Rattle.std.specs.List.{All}
use Rattle.ccr_base.specs.declared.messages.Sent.{Sent}
use Rattle.ccr_text.specs.Fields.{Words}
use Rattle.ccr_wiring.specs.declared.parts.Parts.{Parts}
use Rattle.ccr_wiring.specs.declared.parts.PosterPart.{PosterPart}
use Rattle.ccr_wiring.specs.Limits.{posts_in_all}
use Rattle.ccr_wiring.specs.PartNames.{port_name, cause_name}
use Rattle.ccr_wiretext.specs.declared.keyword.Keyword.TheVariants as keywords
use Rattle.ccr_wiretext.specs.declared.named.Named.TheVariants as kinds
use Rattle.ccr_wiretext.specs.declared.draft.Block.TheVariants as blocks
use Rattle.ccr_wiretext.specs.Keywords.{keyword}
use Rattle.ccr_wiretext.specs.Names.{Naming}
use Rattle.ccr_wiretext.specs.Drafts.{Declared, script_count, with_poster, with_post, end_poster}
use Rattle.ccr_wiretext.specs.Grammar.{IsNew}
use Rattle.ccr_wiretext.specs.Spelling.{post_words, end_words, poster_lines}
use Rattle.ccr_text.specs.Exact.{value_word}
use Rattle.ccr_text.proofs.Digits.{AreReadAgain}
use Rattle.ccr_wiretext.specs.Values.{IsValue, IsPosterValued}
use Rattle.ccr_base.specs.Lists.{Each}
use Rattle.ccr_wiretext.proofs.Fit.{PostFit, PosterFit}
use Rattle.ccr_wiretext.proofs.Round.Leads.{inside, outside, IsStep, Leads, leads_on, leads_to, leads_from, walk, walk_lines, room_before, room_for, each_at, all_at}
use Rattle.ccr_wiretext.proofs.Round.Namings.{Good, entries, names_of, next_names, next_new}
use Rattle.ccr_wiretext.proofs.Round.Terms.{word_more, name_word, value_clean, value_says}
use Rattle.ccr_wiretext.proofs.Round.Known.{KnowsPorts, KnowsCauses, ports_stay, causes_stay, port_says, port_word, causes_say, causes_clean}

abbrev pub poster_entries : List PosterPart → Naming
poster_entries parts = entries (λ (part : PosterPart). part.name) (λ n. kinds.Poster) 0 parts

abbrev PostValued : Sent → Type 0
PostValued post = IsValue post.value

post_step : AreReadAgain → (whole parts : Parts) (names : Naming) (spotted : List ℕ) (part : PosterPart) (post : Sent) → KnowsPorts whole names → KnowsCauses whole names → PostFit parts.version (length whole.ports) (length whole.causes) post → PostValued post
    → script_count parts + length part.posts < 10000 → IsStep (inside parts names spotted (blocks.Poster part)) (post_words whole post) (with_post (outside parts names spotted) part post)
unfolding keyword
post_step again whole parts names spotted part post ports causes fit valued room =
    let rest : Words = map (cause_name whole) post.causes in
    record {
      first = codes "post";
      others = port_name whole post.port ∷ value_word post.value ∷ rest;
      word = keywords.Post;
      spelled = refl;
      keyed = refl;
      plain = refl;
      clean = word_more (codes "post") (port_name whole post.port ∷ value_word post.value ∷ rest) (refl, refl)
          (word_more (port_name whole post.port) (value_word post.value ∷ rest) (port_word whole names ports post.port fit.0)
          (word_more (value_word post.value) rest (value_clean again post.value valued) (causes_clean whole names causes post.causes fit.1)));
      says = (
        post,
        record {
          room = room;
          to = port_name whole post.port;
          value = value_word post.value;
          rest = rest;
          spelled = refl;
          refers = port_says whole (outside parts names spotted) ports post.port fit.0;
          numbers = value_says again parts.version post.value fit.3 valued;
          causes = causes_say whole names causes [] post.causes fit.1 fit.2;
        },
        refl,
      );
    }

-- a poster with some of its posts
abbrev begun : List ℕ → List Sent → PosterPart
begun name done = record { name = name; posts = done }

posts_lead : AreReadAgain → (whole parts : Parts) (names : Naming) (spotted : List ℕ) (name : List ℕ) (some : List Sent) → KnowsPorts whole names → KnowsCauses whole names → Each (PostFit parts.version (length whole.ports) (length whole.causes)) some → All PostValued some
    → script_count parts + length some ≤ 10000
    → Leads (inside parts names spotted (blocks.Poster (begun name []))) (map (post_words whole) some) (inside parts names spotted (blocks.Poster (begun name some)))
posts_lead again whole parts names spotted name some ports causes fit valued room =
    walk_lines (post_words whole) (λ done. inside parts names spotted (blocks.Poster (begun name done))) some
    (λ done post rest e.
    let less = room_before (length some) done post rest some e (omega arith) in
    post_step again whole parts names spotted (begun name done) post ports causes
    (each_at (PostFit parts.version (length whole.ports) (length whole.causes)) done post rest some e fit)
    (all_at PostValued done post rest some e valued)
    (omega arith))

open_step : (parts : Parts) (names : Naming) (spotted : List ℕ) (name : List ℕ) → IsNew names name → length parts.posters < 16 → IsStep (outside parts names spotted) (codes "poster" ∷ name ∷ []) (with_poster (outside parts names spotted) name)
unfolding keyword
open_step parts names spotted name new room = record {
  first = codes "poster";
  others = name ∷ [];
  word = keywords.Poster;
  spelled = refl;
  keyed = refl;
  plain = refl;
  clean = word_more (codes "poster") (name ∷ []) (refl, refl) (word_more name [] (name_word name new.formed) tt);
  says = (name, record { room = room; spelled = refl; new = new }, refl);
}

end_step : (parts : Parts) (names : Naming) (spotted : List ℕ) (part : PosterPart) → IsStep (inside parts names spotted (blocks.Poster part)) end_words (end_poster (outside parts names spotted) part)
unfolding keyword
end_step parts names spotted part = record {
  first = codes "end";
  others = [];
  word = keywords.End;
  spelled = refl;
  keyed = refl;
  plain = refl;
  clean = (refl, refl, tt);
  says = (refl, refl);
}

poster_leads : AreReadAgain → (whole parts : Parts) (names : Naming) (spotted : List ℕ) (part : PosterPart) → KnowsPorts whole names → KnowsCauses whole names → IsNew names part.name → PosterFit parts.version (length whole.ports) (length whole.causes) part → IsPosterValued part
    → length parts.posters < 16 → script_count parts + length part.posts ≤ 10000
    → Leads (outside parts names spotted) (poster_lines whole part) (outside (record parts { posters = parts.posters ++ part ∷ [] }) (names ++ (part.name, kinds.Poster) ∷ []) spotted)
poster_leads again whole parts names spotted part ports causes new fit valued room post_room =
    let entry : Naming = (part.name, kinds.Poster) ∷ [] in
    let closed : Declared = outside (record parts { posters = parts.posters ++ part ∷ [] }) (names ++ entry) spotted in (
      with_poster (outside parts names spotted) part.name,
      open_step parts names spotted part.name new room,
      leads_on (inside parts (names ++ entry) spotted (blocks.Poster (begun part.name []))) (inside parts (names ++ entry) spotted (blocks.Poster part)) closed (map (post_words whole) part.posts) (end_words ∷ [])
          (posts_lead again whole parts (names ++ entry) spotted part.name part.posts (ports_stay whole names entry ports) (causes_stay whole names entry causes) fit valued post_room)
          (closed, end_step parts (names ++ entry) spotted part, refl),
    )

pub posters_lead : AreReadAgain → (whole parts : Parts) (front : Naming) (spotted : List ℕ) (posters : List PosterPart) → KnowsPorts whole front → KnowsCauses whole front → Each (PosterFit parts.version (length whole.ports) (length whole.causes)) posters → All IsPosterValued posters
    → length posters ≤ 16 → posts_in_all posters ≤ 10000 → Good (names_of (front ++ poster_entries posters))
    → Leads (outside (record parts { posters = [] }) front spotted) (flat_map (poster_lines whole) posters) (outside (record parts { posters = posters }) (front ++ poster_entries posters) spotted)
posters_lead again whole parts front spotted posters ports causes fit valued room post_room good =
    leads_from (outside (record parts { posters = [] }) (front ++ []) spotted) _ _ _ (ap (λ n. outside (record parts { posters = [] }) n spotted) (append-nil front))
    (walk (poster_lines whole) (λ done. outside (record parts { posters = done }) (front ++ poster_entries done) spotted) posters
    (λ done part rest e.
    leads_to (outside (record parts { posters = done }) (front ++ poster_entries done) spotted)
    (outside (record parts { posters = done ++ part ∷ [] }) ((front ++ poster_entries done) ++ (part.name, kinds.Poster) ∷ []) spotted) _ (poster_lines whole part)
    (poster_leads again whole (record parts { posters = done }) (front ++ poster_entries done) spotted part
    (ports_stay whole front (poster_entries done) ports)
    (causes_stay whole front (poster_entries done) causes)
    (next_new (λ (part : PosterPart). part.name) (λ n. kinds.Poster) front done part rest posters e good)
    (each_at (PosterFit parts.version (length whole.ports) (length whole.causes)) done part rest posters e fit)
    (all_at IsPosterValued done part rest posters e valued)
    (room_before 16 done part rest posters e room)
    (room_for (λ (poster : PosterPart). length poster.posts) 10000 done part rest posters e post_room))
    (ap (λ n. outside (record parts { posters = done ++ part ∷ [] }) n spotted) (next_names (λ (part : PosterPart). part.name) (λ n. kinds.Poster) front done part))))
