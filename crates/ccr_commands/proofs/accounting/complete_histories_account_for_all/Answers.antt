use Rattle.ccr_commands.proofs.accounting.complete_histories_account_for_all.Goals as goal

pub returns : goal.returns
returns c = λ w h valid legal complete. record {
  valid = valid;
  scripts = λ number poster at shut. (c.posters_follow_their_scripts.ensures.follows w h legal number poster at shut, c.posters_follow_their_scripts.ensures.whole w h legal complete number poster at shut);
  fates = c.messages_have_one_fate.ensures.fate w valid h legal;
  once = c.messages_have_one_fate.ensures.once w valid h legal;
  patterns = c.firings_take_whole_patterns.ensures w valid h legal;
}
